-- Identifiers of feature objects, and related objects (S-57 Part 3, FOID and FFPT).
use Rattle.std.specs.Prelude.{ℕ, ◌<◌, ◌^◌, List, ◌++◌}
use Rattle.std.specs.Int.{w16, w32}
use Rattle.chart_model.specs.declared.name.Foid.{Foid}
use Rattle.chart_model.specs.declared.record.Related.{Related}
use Rattle.page_parts.specs.Reader.{Reader, seen_as, then_at}
use Rattle.page_parts.specs.Numbers.{byte, byte_at, number, number_at}

-- AGEN, FIDN and FIDS
unfoldable pub foid : Foid → List ℕ
foid value = number w16 value.agen ++ number w32 value.fidn ++ number w16 value.fids

pub record IsFoidInRange (value : Foid) : Type 0 where
  pub agen : value.agen < 2 ^ 16
  pub fidn : value.fidn < 2 ^ 32
  pub fids : value.fids < 2 ^ 16

-- the identifier of the object, and RIND
unfoldable pub related_object : Related → List ℕ
related_object value = foid value.foid ++ byte value.rind

pub record IsRelatedInRange (value : Related) : Type 0 where
  pub foid : IsFoidInRange value.foid
  pub rind : value.rind < 256

-- ---- read

abbrev pub foid_of : ℕ × (ℕ × ℕ) → Foid
foid_of fields = record { agen = fields.0; fidn = fields.1.0; fids = fields.1.1 }

unfoldable pub foid_at : Reader Foid
foid_at bytes = seen_as foid_of (then_at (number_at w16) (then_at (number_at w32) (number_at w16))) bytes

abbrev pub related_object_of : Foid × ℕ → Related
related_object_of fields = record { foid = fields.0; rind = fields.1 }

unfoldable pub related_object_at : Reader Related
related_object_at bytes = seen_as related_object_of (then_at foid_at byte_at) bytes
