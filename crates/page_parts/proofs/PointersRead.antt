-- Names, pointers, identifiers and related objects are read as they are spelled.
use Rattle.std.proofs.Common.{ℕ, refl, append_assoc}
use Rattle.chart_model.specs.declared.name.Name.{Name}
use Rattle.chart_model.specs.declared.name.Foid.{Foid}
use Rattle.chart_model.specs.declared.record.Pointer.{Pointer}
use Rattle.chart_model.specs.declared.record.Related.{Related}
use Rattle.page_parts.specs.Reader.{Reads}
use Rattle.page_parts.specs.Pointers.{IsNameInRange, IsPointerInRange, name, name_at, name_of, pointer, pointer_at, pointer_of}
use Rattle.page_parts.specs.RelatedObjects.{IsFoidInRange, IsRelatedInRange, foid, foid_at, foid_of, related_object, related_object_at, related_object_of}
use Rattle.page_parts.proofs.NumbersRead.{byte_reads, four_read, two_read}
use Rattle.page_parts.proofs.ReadBehind.{both_read, read_as, spelled_as}

pub name_reads : Reads name_at name IsNameInRange
unfolding name name_at
name_reads =
    read_as name_of (λ (value : Name). (value.rcnm, value.rcid)) IsNameInRange (both_read byte_reads four_read)
    (λ x h. (refl, record { rcnm = h.0; rcid = h.1 }))
    (λ value h. (refl, (h.rcnm, h.rcid)))

abbrev pointer_fields : Pointer → Name × (ℕ × (ℕ × (ℕ × ℕ)))
pointer_fields value = (value.target, (value.ornt, (value.usag, (value.topi, value.mask))))

pub pointer_reads : Reads pointer_at pointer IsPointerInRange
unfolding pointer pointer_at
pointer_reads =
    spelled_as pointer
    (read_as pointer_of pointer_fields IsPointerInRange
    (both_read name_reads (both_read byte_reads (both_read byte_reads (both_read byte_reads byte_reads))))
    (λ x h. (refl, record { target = h.0; ornt = h.1.0; usag = h.1.1.0; topi = h.1.1.1.0; mask = h.1.1.1.1 }))
    (λ value h. (refl, (h.target, (h.ornt, (h.usag, (h.topi, h.mask)))))))
    (λ value. simp append_assoc)

abbrev foid_fields : Foid → ℕ × (ℕ × ℕ)
foid_fields value = (value.agen, (value.fidn, value.fids))

pub foid_reads : Reads foid_at foid IsFoidInRange
unfolding foid foid_at
foid_reads =
    spelled_as foid
    (read_as foid_of foid_fields IsFoidInRange (both_read two_read (both_read four_read two_read))
    (λ x h. (refl, record { agen = h.0; fidn = h.1.0; fids = h.1.1 }))
    (λ value h. (refl, (h.agen, (h.fidn, h.fids)))))
    (λ value. simp append_assoc)

pub related_object_reads : Reads related_object_at related_object IsRelatedInRange
unfolding related_object related_object_at
related_object_reads =
    read_as related_object_of (λ (value : Related). (value.foid, value.rind)) IsRelatedInRange (both_read foid_reads byte_reads)
    (λ x h. (refl, record { foid = h.0; rind = h.1 }))
    (λ value h. (refl, (h.foid, h.rind)))
