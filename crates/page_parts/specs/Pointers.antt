-- Names of records, and pointers to them (S-57 Part 3, VRPT and FSPT).
use Rattle.std.specs.Prelude.{ℕ, ◌<◌, ◌^◌, List, ◌++◌}
use Rattle.std.specs.Int.{w32}
use Rattle.chart_model.specs.declared.name.Name.{Name}
use Rattle.chart_model.specs.declared.record.Pointer.{Pointer}
use Rattle.page_parts.specs.Reader.{Reader, seen_as, then_at}
use Rattle.page_parts.specs.Numbers.{byte, byte_at, number, number_at}

-- RCNM and RCID
unfoldable pub name : Name → List ℕ
name value = byte value.rcnm ++ number w32 value.rcid

pub record IsNameInRange (value : Name) : Type 0 where
  pub rcnm : value.rcnm < 256
  pub rcid : value.rcid < 2 ^ 32

-- the name that a pointer points to, ORNT, USAG, TOPI and MASK
unfoldable pub pointer : Pointer → List ℕ
pointer value = name value.target ++ byte value.ornt ++ byte value.usag ++ byte value.topi ++ byte value.mask

pub record IsPointerInRange (value : Pointer) : Type 0 where
  pub target : IsNameInRange value.target
  pub ornt : value.ornt < 256
  pub usag : value.usag < 256
  pub topi : value.topi < 256
  pub mask : value.mask < 256

-- ---- read

abbrev pub name_of : ℕ × ℕ → Name
name_of fields = record { rcnm = fields.0; rcid = fields.1 }

unfoldable pub name_at : Reader Name
name_at bytes = seen_as name_of (then_at byte_at (number_at w32)) bytes

abbrev pub pointer_of : Name × (ℕ × (ℕ × (ℕ × ℕ))) → Pointer
pointer_of fields = record {
  target = fields.0;
  ornt = fields.1.0;
  usag = fields.1.1.0;
  topi = fields.1.1.1.0;
  mask = fields.1.1.1.1;
}

unfoldable pub pointer_at : Reader Pointer
pointer_at bytes =
    seen_as pointer_of (then_at name_at (then_at byte_at (then_at byte_at (then_at byte_at byte_at)))) bytes
