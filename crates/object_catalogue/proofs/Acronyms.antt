-- The tests of acronyms.
use Rattle.std.proofs.Common.{◌≡◌, ◌≢◌, ℕ, Bool, true, false, ◌&&◌, ◌||◌, eqb, List, [], ◌∷◌, length, Some, None, cond, refl, ap, arith}
use Rattle.std.specs.Bool.{Decides}
use Rattle.std.specs.Prelude.{nat_le, slice_index}
use Rattle.std.specs.List.{All, list_all}
use Rattle.std.proofs.lemmas.Bool.{false_from_ne_true}
use Rattle.std.proofs.lemmas.Bool.Decides.{Decides-eqb, Decides-and, Decides-or, Decides-like, Decides-by_and}
use Rattle.std.proofs.lemmas.List.Elements.{All-weaker}
use Rattle.std.proofs.lemmas.Slice.Eq.{text_from_reads}
use Rattle.chart_model.proofs.KeyTests.{Decides-le}
use Rattle.text_lines.specs.Lines.{Lacks}
use Rattle.object_catalogue.specs.Acronym.{IsAcronymByte, IsAcronym, is_acronym_byte, is_acronym, acronym_of}

Decides-byte : (byte : ℕ) → Decides (is_acronym_byte byte) (IsAcronymByte byte)
Decides-byte byte =
    Decides-or (nat_le 65 byte && nat_le byte 90) ((nat_le 48 byte && nat_le byte 57) || eqb byte 95)
    (Decides-and (nat_le 65 byte) (nat_le byte 90) (Decides-le 65 byte) (Decides-le byte 90))
    (Decides-or (nat_le 48 byte && nat_le byte 57) (eqb byte 95)
    (Decides-and (nat_le 48 byte) (nat_le byte 57) (Decides-le 48 byte) (Decides-le byte 57)) (Decides-eqb byte 95))

Decides-bytes : (text : List ℕ) → Decides (list_all is_acronym_byte text) (All IsAcronymByte text)
Decides-bytes text = Decides-by_and is_acronym_byte IsAcronymByte (list_all is_acronym_byte) Decides-byte refl (λ _ _. refl) text

pub Decides-acronym : (text : List ℕ) → Decides (is_acronym text) (IsAcronym text)
unfolding is_acronym
Decides-acronym text =
    Decides-like (is_acronym text)
    (λ h. record { long = h.0; spelled = h.1 })
    (λ a. (a.long, a.spelled))
    (Decides-and (eqb (length text) 6) (list_all is_acronym_byte text) (Decides-eqb (length text) 6) (Decides-bytes text))

-- six bytes are read one by one
pub six_bytes : (text : List ℕ) → length text ≡ 6
    → text ≡ slice_index text 0 ∷ slice_index text 1 ∷ slice_index text 2 ∷ slice_index text 3 ∷ slice_index text 4 ∷ slice_index text 5 ∷ []
six_bytes text h = text_from_reads text _ h (refl, (refl, (refl, (refl, (refl, (refl, tt))))))

pub is_one : (text : List ℕ) → length text ≡ 6 → list_all is_acronym_byte text ≡ true → IsAcronym text
is_one text long spelled = record { long = long; spelled = (Decides-bytes text).0 spelled }

pub acronym_some : (text : List ℕ) → IsAcronym text → acronym_of text ≡ Some text
acronym_some text h = ap (λ (b : Bool). cond b (Some text) None) ((Decides-acronym text).1 h)

pub acronym_none : (text : List ℕ) → ¬ IsAcronym text → acronym_of text ≡ None
acronym_none text h = ap (λ (b : Bool). cond b (Some text) None) (false_from_ne_true (is_acronym text) (λ is. h ((Decides-acronym text).0 is)))

pub unspelled : (text : List ℕ) → list_all is_acronym_byte text ≡ false → ¬ IsAcronym text
unspelled text h is = let t = (Decides-bytes text).1 is.spelled in absurd cc

pub other_length : (text : List ℕ) → length text ≢ 6 → ¬ IsAcronym text
other_length text h is = h is.long

no_space : (byte : ℕ) → IsAcronymByte byte → byte ≢ 32
no_space byte h = omega arith

pub acronym_lacks : (text : List ℕ) → IsAcronym text → Lacks 32 text
acronym_lacks text h = All-weaker IsAcronymByte (λ b. b ≢ 32) no_space text h.spelled
