-- The digits of cells write the number of metres.
use Rattle.std.proofs.Common.{◌≡◌, inl, inr, ℕ, ◌+◌, ◌*◌, ◌/◌, ◌%◌, ◌<◌, ◌≤◌, ℤ, pos, Bool, true, false, cond, not, ◌&&◌, nat_lt, nat_le, eqb, subst, List, [], ◌∷◌, ◌++◌, length, refl, ap, ◌∙◌, arith, unsigned_abs}
use Rattle.std.specs.Char.{digit_value}
use Rattle.std.specs.Str.Parse.{AllDigits, digits_value_after}
use Rattle.std.proofs.lemmas.Bool.{cases_lt, lt-ltb, le-ltb, le-leb, lt-leb}
use Rattle.chart_model.specs.Record.{IsWithin}
use Rattle.text_scan.specs.Written.{IsDecimal}
use Rattle.depth_values.specs.Digits.{cell, metre_cells, sign_cells, cells_of, digits_in, ShowsTenths, WritesDepth}

digit : (d : ℕ) → d < 10 → digit_value (48 + d) ≡ d
digit d h =
    let not_under : nat_lt (48 + d) 48 ≡ false = le-ltb (48 + d) 48 (omega arith) in
    let under : nat_lt (48 + d) 58 ≡ true = lt-ltb (48 + d) 58 (omega arith) in
    rw (not_under, under) (omega arith)

-- digits, none of which is above 9, and the number that they write
abbrev AreDigits : List ℕ → Type 0
AreDigits [] = Unit {0}
AreDigits (d ∷ ds) = (d < 10) × AreDigits ds

abbrev texts : List ℕ → List ℕ
texts [] = []
texts (d ∷ ds) = (48 + d) ∷ texts ds

abbrev value_after : ℕ → List ℕ → ℕ
value_after n [] = n
value_after n (d ∷ ds) = value_after (n * 10 + d) ds

all_texts : (ds : List ℕ) → AreDigits ds → AllDigits 10 (texts ds)
all_texts [] h = tt
all_texts (d ∷ ds) h = (omega (arith, digit d h.0), all_texts ds h.1)

value_texts : (n : ℕ) (ds : List ℕ) → AreDigits ds → digits_value_after 10 n (texts ds) ≡ value_after n ds
value_texts n [] h = refl
value_texts n (d ∷ ds) h =
    ap (λ (k : ℕ). digits_value_after 10 (n * 10 + k) (texts ds)) (digit d h.0) ∙ value_texts (n * 10 + d) ds h.1

decimal : (m d : ℕ) (ds : List ℕ) → d < 10 → AreDigits ds → value_after (0 * 10 + d) ds ≡ m → (d ≡ 0 → length (texts (d ∷ ds)) ≡ 1) → IsDecimal (texts (d ∷ ds)) (pos m)
decimal m d ds h all e first = record {
  digits = texts (d ∷ ds);
  whole = refl;
  numeral = (omega arith, all_texts (d ∷ ds) (h, all));
  value = value_texts 0 (d ∷ ds) (h, all) ∙ e;
  shortest = λ z. first (omega (arith, z));
}

-- the cells write whole metres and tenths
record Writes (m f : ℕ) (cells : List (List ℕ)) : Type 0 where
  pub whole : List (List ℕ)
  pub tenths : List (List ℕ)
  pub parts : cells ≡ whole ++ tenths
  pub metres : IsDecimal (digits_in whole) (pos m)
  pub fraction : ShowsTenths m f tenths

turned : {A : Type 0} (b : Bool) (x y : A) → cond b x y ≡ cond (not b) y x
turned true x y = refl
turned false x y = refl

single : (m f : ℕ) → m < 10 → Writes m f (metre_cells m f)
single m f h =
    let small : nat_lt m 10 ≡ true = lt-ltb m 10 h in
    let low : nat_le m 30 ≡ true = le-leb m 30 (omega arith) in
    rw small (record {
      whole = cell 1 m ∷ [];
      tenths = cond (eqb f 0) [] (cell 5 f ∷ []);
      parts = refl;
      metres = decimal m m [] h tt (omega arith) (λ _. refl);
      fraction = record { shown = rw low (turned (eqb f 0) [] (cell 5 f ∷ [])) };
    })

pair_and_tenths : (m f : ℕ) → 10 ≤ m → m < 100 → (nat_le m 30 && not (eqb f 0)) ≡ true → Writes m f (metre_cells m f)
pair_and_tenths m f h k t =
    let large : nat_lt m 10 ≡ false = le-ltb m 10 h in
    rw (large, t) (record {
      whole = cell 2 (m / 10) ∷ cell 1 (m % 10) ∷ [];
      tenths = cell 5 f ∷ [];
      parts = refl;
      metres = decimal m (m / 10) (m % 10 ∷ []) (omega arith) (omega arith, tt) (omega arith) (λ e. absurd (omega (arith, e)));
      fraction = record { shown = rw t refl };
    })

pair : (m f : ℕ) → 10 ≤ m → m < 100 → (nat_le m 30 && not (eqb f 0)) ≡ false → Writes m f (metre_cells m f)
pair m f h k t =
    let large : nat_lt m 10 ≡ false = le-ltb m 10 h in
    let small : nat_lt m 100 ≡ true = lt-ltb m 100 k in
    rw (large, t, small) (record {
      whole = cell 1 (m / 10) ∷ cell 0 (m % 10) ∷ [];
      tenths = [];
      parts = refl;
      metres = decimal m (m / 10) (m % 10 ∷ []) (omega arith) (omega arith, tt) (omega arith) (λ e. absurd (omega (arith, e)));
      fraction = record { shown = rw t refl };
    })

triple : (m f : ℕ) → 100 ≤ m → m < 1000 → Writes m f (metre_cells m f)
triple m f h k =
    let large : nat_lt m 10 ≡ false = le-ltb m 10 (omega arith) in
    let past_tenths : nat_le m 30 ≡ false = lt-leb m 30 (omega arith) in
    let larger : nat_lt m 100 ≡ false = le-ltb m 100 h in
    let small : nat_lt m 1000 ≡ true = lt-ltb m 1000 k in
    rw (large, past_tenths, larger, small) (record {
      whole = cell 2 (m / 100) ∷ cell 1 (m / 10 % 10) ∷ cell 0 (m % 10) ∷ [];
      tenths = [];
      parts = refl;
      metres = decimal m (m / 100) (m / 10 % 10 ∷ m % 10 ∷ []) (omega arith) (omega arith, (omega arith, tt)) (omega arith) (λ e. absurd (omega (arith, e)));
      fraction = record { shown = rw past_tenths refl };
    })

quadruple : (m f : ℕ) → 1000 ≤ m → m < 10000 → Writes m f (metre_cells m f)
quadruple m f h k =
    let large : nat_lt m 10 ≡ false = le-ltb m 10 (omega arith) in
    let past_tenths : nat_le m 30 ≡ false = lt-leb m 30 (omega arith) in
    let larger : nat_lt m 100 ≡ false = le-ltb m 100 (omega arith) in
    let huge : nat_lt m 1000 ≡ false = le-ltb m 1000 h in
    let small : nat_lt m 10000 ≡ true = lt-ltb m 10000 k in
    rw (large, past_tenths, larger, huge, small) (record {
      whole = cell 2 (m / 1000) ∷ cell 1 (m / 100 % 10) ∷ cell 0 (m / 10 % 10) ∷ cell 4 (m % 10) ∷ [];
      tenths = [];
      parts = refl;
      metres = decimal m (m / 1000) (m / 100 % 10 ∷ m / 10 % 10 ∷ m % 10 ∷ []) (omega arith) (omega arith, (omega arith, (omega arith, tt))) (omega arith) (λ e. absurd (omega (arith, e)));
      fraction = record { shown = rw past_tenths refl };
    })

quintuple : (m f : ℕ) → 10000 ≤ m → m < 100000 → Writes m f (metre_cells m f)
quintuple m f h k =
    let large : nat_lt m 10 ≡ false = le-ltb m 10 (omega arith) in
    let past_tenths : nat_le m 30 ≡ false = lt-leb m 30 (omega arith) in
    let larger : nat_lt m 100 ≡ false = le-ltb m 100 (omega arith) in
    let huge : nat_lt m 1000 ≡ false = le-ltb m 1000 (omega arith) in
    let most : nat_lt m 10000 ≡ false = le-ltb m 10000 h in
    rw (large, past_tenths, larger, huge, most) (record {
      whole = cell 3 (m / 10000) ∷ cell 2 (m / 1000 % 10) ∷ cell 1 (m / 100 % 10) ∷ cell 0 (m / 10 % 10) ∷ cell 4 (m % 10) ∷ [];
      tenths = [];
      parts = refl;
      metres =
          decimal m (m / 10000) (m / 1000 % 10 ∷ m / 100 % 10 ∷ m / 10 % 10 ∷ m % 10 ∷ []) (omega arith)
          (omega arith, (omega arith, (omega arith, (omega arith, tt)))) (omega arith) (λ e. absurd (omega (arith, e)));
      fraction = record { shown = rw past_tenths refl };
    })

writes : (m f : ℕ) → m < 100000 → Writes m f (metre_cells m f)
writes m f h =
    elim (cases_lt m 10) [
      | inl a ↦ single m f a
      | inr a ↦ elim (cases_lt m 100) [
        | inl b ↦ two a b (nat_le m 30 && not (eqb f 0)) refl
        | inr b ↦ elim (cases_lt m 1000) [
          | inl c ↦ triple m f b c
          | inr c ↦ elim (cases_lt m 10000) [ inl d ↦ quadruple m f c d | inr d ↦ quintuple m f d h ]
        ]
      ]
    ]
  where
    two : 10 ≤ m → m < 100 → (b : Bool) → (nat_le m 30 && not (eqb f 0)) ≡ b → Writes m f (metre_cells m f)
    two a b true t = pair_and_tenths m f a b t
    two a b false t = pair m f a b t

pub written : (depth : ℤ) → IsWithin 9999999 depth → WritesDepth depth (cells_of depth)
written depth within =
    let n = unsigned_abs depth in
    let w = writes (n / 10 / 10) (n / 10 % 10) (omega (arith, within)) in
    let metres : n / 10 / 10 ≡ n / 100 = omega arith in
    let tenths : n / 10 % 10 ≡ n % 100 / 10 = omega arith in
    record {
      whole = w.whole;
      tenths = w.tenths;
      parts = ap (λ (l : List (List ℕ)). sign_cells depth ++ l) w.parts;
      metres = subst (λ (k : ℕ). IsDecimal (digits_in w.whole) (pos k)) metres w.metres;
      fraction = subst (λ (k : ℕ). ShowsTenths k (n % 100 / 10) w.tenths) metres (subst (λ (k : ℕ). ShowsTenths (n / 10 / 10) k w.tenths) tenths w.fraction);
    }
