-- Numbers in few digits.
use Rattle.std.proofs.Common.{◌≡◌, ℕ, pos, ◌+◌, ◌/◌, ◌%◌, ◌<◌, ◌≤◌, List, [], ◌∷◌, ◌++◌, ap, ◌∙◌, arith}
use Rattle.std.proofs.lemmas.Fmt.{decimal_digit, decimal_step}
use Rattle.text_scan.specs.Written.{decimal_of}
use Rattle.cell_bytes.specs.Record.{digits}

-- five digits, of which the first three are 0
pub two_of_five : (n : ℕ) → n < 100 → digits 5 n ≡ 48 ∷ 48 ∷ 48 ∷ (48 + n / 10) ∷ (48 + n % 10) ∷ []
unfolding digits
two_of_five n small =
    let a : 48 + n / 10000 % 10 ≡ 48 = omega (arith, small) in
    let b : 48 + n / 1000 % 10 ≡ 48 = omega (arith, small) in
    let c : 48 + n / 100 % 10 ≡ 48 = omega (arith, small) in
    let d : 48 + n / 10 % 10 ≡ 48 + n / 10 = omega (arith, small) in
    let e : 48 + n / 1 % 10 ≡ 48 + n % 10 = omega (arith, small) in
    λ i. a i ∷ b i ∷ c i ∷ d i ∷ e i ∷ []

pub decimal_below_ten : (n : ℕ) → n < 10 → decimal_of (pos n) ≡ (48 + n % 10) ∷ []
decimal_below_ten n small =
    let same : 48 + n ≡ 48 + n % 10 = omega (arith, small) in
    decimal_digit n small ∙ ap (λ (d : ℕ). d ∷ []) same

pub decimal_below_hundred : (n : ℕ) → 10 ≤ n → n < 100 → decimal_of (pos n) ≡ (48 + n / 10) ∷ ((48 + n % 10) ∷ [])
decimal_below_hundred n high small =
    let tens : decimal_of (pos (n / 10)) ≡ (48 + n / 10) ∷ [] = decimal_digit (n / 10) (omega (arith, small)) in
    decimal_step n high (omega (arith, small)) ∙ ap (λ (l : List ℕ). l ++ ((48 + n % 10) ∷ [])) tens
