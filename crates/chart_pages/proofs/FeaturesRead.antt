-- Feature records are read as they are spelled.
use Rattle.std.proofs.Common.{◌≡◌, ℕ, ◌<◌, ◌≤◌, ◌^◌, ◌&&◌, true, inl, inr, List, [], ◌∷◌, All, refl, sym, append_assoc, arith}
use Rattle.std.specs.Prelude.{◌==◌, nat_le}
use Rattle.std.specs.List.{AllByRecursion}
use Rattle.std.proofs.lemmas.Bool.{and_from, and_parts, eq-eqb, eqb-true, le-leb, leb-true, or_cases, or_left, or_right}
use Rattle.std.proofs.lemmas.List.Elements.{All-from_recursion, recursion_from_All}
use Rattle.chart_model.specs.declared.name.Name.{Name}
use Rattle.chart_model.specs.declared.record.Pointer.{Pointer}
use Rattle.chart_model.specs.declared.cell.Feature.{Feature}
use Rattle.chart_model.specs.Cell.{IsFeature}
use Rattle.chart_model.specs.Codes.{AREA, NO_PRIMITIVE, NULL, POINT}
use Rattle.chart_model.specs.Record.{IsFeatureName, IsPrim}
use Rattle.page_parts.specs.Reader.{Reads}
use Rattle.page_parts.specs.Numbers.{byte, number}
use Rattle.page_parts.specs.Lists.{AreInRange, counted_list}
use Rattle.page_parts.specs.Pointers.{IsPointerInRange, pointer, pointer_at}
use Rattle.page_parts.specs.RelatedObjects.{IsRelatedInRange, related_object, related_object_at}
use Rattle.page_parts.proofs.AttributesRead.{attributes_reads}
use Rattle.page_parts.proofs.ListsRead.{counted_list_reads}
use Rattle.page_parts.proofs.NumbersRead.{byte_reads, four_read, two_read}
use Rattle.page_parts.proofs.PointersRead.{foid_reads, pointer_reads, related_object_reads}
use Rattle.page_parts.proofs.ReadBehind.{both_read, ranged_as, read_as, read_that, spelled_as}
use Rattle.chart_pages.specs.Features.{Fields, IsFeatureInRange, feature_at, feature_name, feature_name_at, feature_of, feature_pointers_at, feature_record, have_no_topology, is_prim, prim_at}
use Rattle.chart_pages.proofs.VectorsRead.{attrs_are, attrs_in_range, attrs_kept}
use Rattle.std.specs.Int.{w32}

-- ---- names

abbrev number_of_name : Name → List ℕ
number_of_name value = number w32 value.rcid

record IsFeatureNameInRange (value : Name) : Type 0 where
  rcid : value.rcid < 2 ^ 32
  named : IsFeatureName value

feature_name_reads : Reads feature_name_at number_of_name IsFeatureNameInRange
unfolding feature_name_at
feature_name_reads =
    read_as feature_name (λ (value : Name). value.rcid) IsFeatureNameInRange four_read
    (λ rcid h. (refl, record { rcid = h; named = refl }))
    (λ value h. (λ i. record { rcnm = sym h.named i; rcid = value.rcid }, h.rcid))

-- ---- primitives

prim_holds : (prim : ℕ) → is_prim prim ≡ true → IsPrim prim
prim_holds prim e =
    elim (or_cases (nat_le POINT prim && nat_le prim AREA) (prim == NO_PRIMITIVE) e) [
      | inl shaped ↦ let tests = and_parts (nat_le POINT prim) (nat_le prim AREA) shaped in inl (leb-true POINT prim tests.0, leb-true prim AREA tests.1)
      | inr none ↦ inr (eqb-true prim NO_PRIMITIVE none)
    ]

prim_passes : (prim : ℕ) → IsPrim prim → is_prim prim ≡ true
prim_passes prim is =
    elim is [
      | inl shaped ↦ or_left _ _ (and_from _ _ (le-leb POINT prim shaped.0) (le-leb prim AREA shaped.1))
      | inr none ↦ or_right (nat_le POINT prim && nat_le prim AREA) _ (eq-eqb prim NO_PRIMITIVE none)
    ]

prim_small : (prim : ℕ) → IsPrim prim → prim < 256
prim_small prim is =
    elim is [
      | inl shaped ↦ let most : prim ≤ 3 = shaped.1 in omega arith
      | inr none ↦ let one : prim ≡ 255 = none in omega arith
    ]

prim_reads : Reads prim_at byte IsPrim
unfolding prim_at
prim_reads =
    ranged_as IsPrim (read_that is_prim IsPrim byte_reads prim_holds prim_passes) (λ prim h. h.1) (λ prim is. (prim_small prim is, is))

-- ---- pointers

abbrev IsAlone : Pointer → Type 0
IsAlone value = value.topi ≡ NULL

alone_holds : (pointers : List Pointer) → have_no_topology pointers ≡ true → AllByRecursion IsAlone pointers
alone_holds [] e = tt
alone_holds (value ∷ pointers) e =
    let tests = and_parts (value.topi == NULL) (have_no_topology pointers) e in (eqb-true value.topi NULL tests.0, alone_holds pointers tests.1)

alone_passes : (pointers : List Pointer) → AllByRecursion IsAlone pointers → have_no_topology pointers ≡ true
alone_passes [] all = refl
alone_passes (value ∷ pointers) all = and_from _ _ (eq-eqb value.topi NULL all.0) (alone_passes pointers all.1)

feature_pointers_read : Reads feature_pointers_at (counted_list pointer) (λ pointers. AreInRange IsPointerInRange pointers × All IsAlone pointers)
unfolding feature_pointers_at
feature_pointers_read =
    read_that have_no_topology (All IsAlone) (counted_list_reads pointer_at pointer IsPointerInRange pointer_reads)
    (λ pointers e. All-from_recursion IsAlone pointers (alone_holds pointers e))
    (λ pointers all. alone_passes pointers (recursion_from_All IsAlone pointers all))

-- ---- features

abbrev feature_fields : Name × Feature → Fields
feature_fields entry =
    (entry.0, (entry.1.prim, (entry.1.grup, (entry.1.class, (entry.1.version, (entry.1.foid, (entry.1.attrs, (entry.1.related, entry.1.pointers))))))))

pub record IsFeatureEntry (entry : Name × Feature) : Type 0 where
  pub range : IsFeatureInRange entry
  pub is : IsFeature entry.0 entry.1

pub feature_reads : Reads feature_at feature_record IsFeatureEntry
unfolding feature_at feature_record
feature_reads =
    spelled_as feature_record
    (read_as feature_of feature_fields IsFeatureEntry
    (both_read feature_name_reads (both_read prim_reads (both_read byte_reads (both_read two_read (both_read two_read
    (both_read foid_reads (both_read attributes_reads (both_read (counted_list_reads related_object_at related_object IsRelatedInRange related_object_reads) feature_pointers_read))))))))
    (λ x h. (
      refl,
      record {
        range = record {
          rcid = h.0.rcid;
          grup = h.1.1.0;
          class = h.1.1.1.0;
          version = h.1.1.1.1.0;
          foid = h.1.1.1.1.1.0;
          attrs = attrs_in_range x.1.1.1.1.1.1.0 h.1.1.1.1.1.1.0;
          related = h.1.1.1.1.1.1.1.0;
          pointers = h.1.1.1.1.1.1.1.1.0;
        };
        is = record {
          named = h.0.named;
          prim = h.1.0;
          attrs = attrs_kept x.1.1.1.1.1.1.0 h.1.1.1.1.1.1.0;
          topi = h.1.1.1.1.1.1.1.1.1;
        };
      },
    ))
    (λ entry h. (
      refl,
      (
        record { rcid = h.range.rcid; named = h.is.named },
        (
          h.is.prim,
          (
            h.range.grup,
            (
              h.range.class,
              (
                h.range.version,
                (
                  h.range.foid,
                  (attrs_are entry.1.attrs h.range.attrs h.is.attrs, (h.range.related, (h.range.pointers, h.is.topi))),
                ),
              ),
            ),
          ),
        ),
      ),
    ))
    )
    (λ entry. simp append_assoc)
