-- What is written of a value is the spelling that is read.
use Rattle.std.proofs.Common.{◌≡◌, ℕ, suc, Bool, ◌-◌, pos, negsuc, ℤ, ◌*◌, ◌^◌, ◌<◌, ◌≤◌, true, false, List, inl, inr, refl, sym, ap, ◌∙◌, arith, cond}
use Rattle.std.specs.Prelude.{nat_lt, ◌-ℤ◌, FitsSigned}
use Rattle.std.specs.Int.{w32}
use Rattle.std.proofs.lemmas.Bool.Decides.{nat_tests}
use Rattle.std.proofs.lemmas.Int.{ints}
use Rattle.std.proofs.lemmas.List.Elements.{recursion_from_All}
use Rattle.chart_model.specs.Record.{IsPlainText}
use Rattle.iso8211_formats.specs.declared.format.Format.TheVariants.{TextOpen, Unsigned, Signed}
use Rattle.iso8211_records.specs.declared.value.Value.TheVariants.{Number, Text}
use Rattle.iso8211_records.specs.Spelling.{IsTextByte, Spells, signed_of, unsigned_of}
use Rattle.cell_bytes.specs.Subfields.{b11, b12, b14, b24, open_text}

pub spells-b11 : (n : ℕ) → n < 256 → Spells (Unsigned 1) (Number (pos n)) (b11 n)
unfolding b11 unsigned_of
spells-b11 n small = (inl refl, refl, ap pos (omega arith))

unsigned-b12 : (n : ℕ) → n < 65536 → n ≡ unsigned_of (b12 n)
unfolding b12 unsigned_of
unsigned-b12 n small = omega arith

pub spells-b12 : (n : ℕ) → n < 65536 → Spells (Unsigned 2) (Number (pos n)) (b12 n)
unfolding b12
spells-b12 n small = (inr (inl refl), refl, ap pos (unsigned-b12 n small))

unsigned-b14 : (n : ℕ) → n < 4294967296 → n ≡ unsigned_of (b14 n)
unfolding b14 unsigned_of
unsigned-b14 n small = omega arith

pub spells-b14 : (n : ℕ) → n < 4294967296 → Spells (Unsigned 4) (Number (pos n)) (b14 n)
unfolding b14
spells-b14 n small = (inr (inr refl), refl, ap pos (unsigned-b14 n small))

pub spells-text : (text : List ℕ) → IsPlainText text → Spells TextOpen (Text text) (open_text text)
unfolding open_text
spells-text text plain = (recursion_from_All IsTextByte text plain, refl)

signed-low : (n : ℕ) → n < 2147483648 → signed_of (b14 n) ≡ pos n
unfolding b14 signed_of
signed-low n small =
    let same : n ≡ unsigned_of (b14 n) = unsigned-b14 n (omega arith) in
    let low : nat_lt (2 * unsigned_of (b14 n)) (256 ^ 4) ≡ true = grind (arith, nat_tests, same) in
    ap (λ (b : Bool). cond b (pos (unsigned_of (b14 n))) (pos (unsigned_of (b14 n)) -ℤ pos (256 ^ 4))) low ∙ ap pos (sym same)

signed-high : (n : ℕ) → 2147483648 ≤ n → n < 4294967296 → signed_of (b14 n) ≡ pos n -ℤ pos 4294967296
unfolding b14 signed_of
signed-high n large small =
    let same : n ≡ unsigned_of (b14 n) = unsigned-b14 n small in
    let high : nat_lt (2 * unsigned_of (b14 n)) (256 ^ 4) ≡ false = grind (arith, nat_tests, same) in
    ap (λ (b : Bool). cond b (pos (unsigned_of (b14 n))) (pos (unsigned_of (b14 n)) -ℤ pos (256 ^ 4))) high
    ∙ ap (λ (k : ℕ). pos k -ℤ pos 4294967296) (sym same)

signed-b24 : (z : ℤ) → FitsSigned w32 z → z ≡ signed_of (b24 z)
unfolding b14 b24
signed-b24 (pos n) fits = sym (signed-low n (omega (arith, fits.sfits)))
signed-b24 (negsuc n) fits =
    let small : n < 2147483648 = omega (arith, fits.sfits) in
    let back : pos (4294967296 - suc n) -ℤ pos 4294967296 ≡ negsuc n = omega (arith, ints) in
    sym (signed-high (4294967296 - suc n) (omega arith) (omega arith) ∙ back)

pub spells-b24 : (z : ℤ) → FitsSigned w32 z → Spells (Signed 4) (Number z) (b24 z)
unfolding b24
spells-b24 z fits = (inr (inr refl), refl, signed-b24 z fits)
