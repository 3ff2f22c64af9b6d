-- Names in strings of bits, the least significant byte first.
use Rattle.std.specs.Prelude.{ℕ, ◌+◌, ◌*◌, List, [], ◌∷◌, Option, Some, None}
use Rattle.chart_model.specs.declared.name.Name.{Name}
use Rattle.chart_model.specs.declared.name.Foid.{Foid}
use Rattle.iso8211_records.specs.declared.value.Value.{Value}
use Rattle.iso8211_records.specs.declared.value.Value.TheVariants.{Number, Text, Bits}

-- the number that two bytes are, and four
abbrev pub two_bytes : ℕ → ℕ → ℕ
two_bytes a b = a + 256 * b

abbrev pub four_bytes : ℕ → ℕ → ℕ → ℕ → ℕ
four_bytes a b c d = a + 256 * (b + 256 * (c + 256 * d))

-- five bytes: RCNM, and RCID in four
unfoldable pub name_in : List ℕ → Option Name
name_in (rcnm ∷ a ∷ b ∷ c ∷ d ∷ []) = Some (record { rcnm = rcnm; rcid = four_bytes a b c d })
name_in _ = None

-- eight bytes: AGEN in two, FIDN in four and FIDS in two
unfoldable pub foid_in : List ℕ → Option Foid
foid_in (a ∷ b ∷ c ∷ d ∷ e ∷ f ∷ g ∷ h ∷ []) = Some (record {
  agen = two_bytes a b;
  fidn = four_bytes c d e f;
  fids = two_bytes g h;
})
foid_in _ = None

-- a value that is a string of such bits (NAME)
unfoldable pub record_name : Value → Option Name
record_name (Bits bits) = name_in bits
record_name (Number number) = None
record_name (Text text) = None

-- the same of a feature object (LNAM)
unfoldable pub object_name : Value → Option Foid
object_name (Bits bits) = foid_in bits
object_name (Number number) = None
object_name (Text text) = None
