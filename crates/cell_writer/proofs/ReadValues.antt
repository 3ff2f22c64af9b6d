-- The values of a written record as they are read: numbers, texts, names, places and depths.
use Rattle.std.proofs.Common.{◌≡◌, ◌∙◌, ℕ, ◌/◌, ◌%◌, ◌≤◌, Bool, true, ◌&&◌, ℤ, pos, negsuc, List, [], ◌∷◌, Some, refl, sym, ap, arith}
use Rattle.std.specs.Prelude.{int_div, ◌*ℤ◌, not, ◌==◌, option_map}
use Rattle.std.specs.List.{AllByRecursion}
use Rattle.std.proofs.lemmas.Bool.{le-leb}
use Rattle.std.proofs.lemmas.Bool.Decides.{nat_tests}
use Rattle.std.proofs.lemmas.Int.{ints}
use Rattle.std.proofs.lemmas.List.Elements.{recursion_from_All}
use Rattle.chart_model.specs.declared.name.Name.{Name}
use Rattle.chart_model.specs.declared.name.Foid.{Foid}
use Rattle.chart_model.specs.Codes.{FIELD_TERMINATOR, UNIT_TERMINATOR}
use Rattle.chart_model.specs.Record.{IsDepth, IsPlainText, IsWithin}
use Rattle.iso8211_records.specs.declared.value.Value.TheVariants.{Bits, Number, Text}
use Rattle.s57_subfields.specs.Names.{foid_in, four_bytes, name_in, object_name, record_name, two_bytes}
use Rattle.s57_subfields.specs.Number.{natural_up_to, number_up_to}
use Rattle.s57_subfields.specs.Signed.{depth_in, number_within, whole_within}
use Rattle.s57_subfields.specs.Texts.{is_plain, plain_text}
use Rattle.cell_bytes.specs.FieldValues.{IsFoidInRange, IsNameInRange, natural}
use Rattle.cell_bytes.specs.Feature.{object_name as object_text}
use Rattle.cell_bytes.specs.Subfields.{b11, b12, b14}
use Rattle.cell_bytes.specs.Vector.{name_text}

-- ---- numbers

pub number-read : (most n : ℕ) → n ≤ most → number_up_to most (natural n) ≡ Some n
unfolding number_up_to natural_up_to
number-read most n within = let so = le-leb n most within in rw so refl

pub within-read : (n : ℕ) (z : ℤ) → IsWithin n z → number_within n (Number z) ≡ Some z
unfolding number_within whole_within
within-read n z within = let so = le-leb _ n within in rw so refl

-- decimetres are written, and centimetres read
tenth : (z : ℤ) → int_div (z *ℤ pos 10) (pos 10) ≡ z
tenth (pos n) = omega (arith, ints)
tenth (negsuc n) = omega (arith, ints)

pub depth-read : (z : ℤ) → IsDepth z → depth_in (Number (int_div z (pos 10))) ≡ Some z
unfolding depth_in
depth-read z (decimetres, within, same) =
    let back : int_div z (pos 10) ≡ decimetres = ap (λ (d : ℤ). int_div d (pos 10)) same ∙ tenth decimetres in
    ap (λ (d : ℤ). option_map (λ d. d *ℤ pos 10) (number_within 999999 (Number d))) back
    ∙ ap (option_map (λ d. d *ℤ pos 10)) (within-read 999999 decimetres within)
    ∙ ap (λ (d : ℤ). Some d) (sym same)

-- ---- texts

plain_byte : (byte : ℕ) → (byte ≡ FIELD_TERMINATOR → ⊥) × (byte ≡ UNIT_TERMINATOR → ⊥)
    → (not (byte == FIELD_TERMINATOR) && not (byte == UNIT_TERMINATOR)) ≡ true
plain_byte byte (field, unit) = grind (arith, nat_tests)

plain_test : (text : List ℕ) → AllByRecursion (λ byte. (byte ≡ FIELD_TERMINATOR → ⊥) × (byte ≡ UNIT_TERMINATOR → ⊥)) text → is_plain text ≡ true
plain_test [] plain = refl
plain_test (byte ∷ text) plain =
    ap (λ (first : Bool). first && is_plain text) (plain_byte byte plain.0) ∙ plain_test text plain.1

pub text-read : (text : List ℕ) → IsPlainText text → plain_text (Text text) ≡ Some text
unfolding plain_text
text-read text plain =
    let so = plain_test text (recursion_from_All (λ byte. (byte ≡ FIELD_TERMINATOR → ⊥) × (byte ≡ UNIT_TERMINATOR → ⊥)) text plain) in rw so refl

-- ---- names

pub name-read : (name : Name) → IsNameInRange name → record_name (Bits (name_text name)) ≡ Some name
unfolding record_name name_in name_text b11 b14
name-read name range =
    let rcid = range.rcid in
    ap (λ (rcid : ℕ). Some (record { rcnm = name.rcnm; rcid = rcid })) (omega arith)

pub object-read : (foid : Foid) → IsFoidInRange foid → object_name (Bits (object_text foid)) ≡ Some foid
unfolding object_name foid_in object_text b12 b14
object-read foid range =
    let agen = range.agen in let fidn = range.fidn in let fids = range.fids in
    let agen_is : two_bytes (foid.agen % 256) (foid.agen / 256 % 256) ≡ foid.agen = omega arith in
    let fidn_is : four_bytes (foid.fidn % 256) (foid.fidn / 256 % 256) (foid.fidn / 65536 % 256) (foid.fidn / 16777216 % 256) ≡ foid.fidn = omega arith in
    let fids_is : two_bytes (foid.fids % 256) (foid.fids / 256 % 256) ≡ foid.fids = omega arith in
    λ i. Some (record { agen = agen_is i; fidn = fidn_is i; fids = fids_is i })
