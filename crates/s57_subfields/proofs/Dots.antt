-- The last dot of a name.
use Rattle.std.proofs.Common.{◌≡◌, ◌∙◌, ℕ, suc, ◌-◌, ◌<◌, false, List, [], ◌∷◌, ◌++◌, length, get_or, take, drop-cons, take-append-drop, append_assoc, Option, Some, None, refl, sym, ap, arith}
use Rattle.std.specs.Prelude.{◌==◌, unwrap_or}
use Rattle.std.proofs.Math.ListN.{drop_of_length-le}
use Rattle.s57_subfields.specs.Texts.{before_last_dot, key_in}

abbrev pub HasNoDot : List ℕ → Type 0
HasNoDot [] = Unit {0}
HasNoDot (x ∷ xs) = ((x == 46) ≡ false) × HasNoDot xs

before_last_dot-none : (xs : List ℕ) → HasNoDot xs → before_last_dot xs ≡ None
unfolding before_last_dot
before_last_dot-none [] none = refl
before_last_dot-none (x ∷ xs) none = rw (before_last_dot-none xs none.1, none.0) refl

before_last_dot-at : (xs ys : List ℕ) → HasNoDot ys → before_last_dot (xs ++ 46 ∷ ys) ≡ Some xs
unfolding before_last_dot
before_last_dot-at [] ys none = rw (before_last_dot-none ys none) refl
before_last_dot-at (x ∷ xs) ys none = rw (before_last_dot-at xs ys none) refl

-- a list is what stands before its last element, and that
front_and_last : (front : List ℕ) → 0 < length front → front ≡ take (length front - 1) front ++ get_or front (length front - 1) 0 ∷ []
front_and_last front some =
    let last = length front - 1 in
    sym (take-append-drop last front)
    ∙ ap (λ (l : List ℕ). take last front ++ l) (drop-cons front last 0 (omega arith) ∙ ap (λ (l : List ℕ). get_or front last 0 ∷ l) (drop_of_length-le front {i = suc last} (omega arith)))

-- behind the front's last byte, a dot, there is no dot
pub key_in-dot : (name front tail : List ℕ) → name ≡ front ++ tail → 0 < length front → get_or front (length front - 1) 0 ≡ 46 → HasNoDot tail → take (length front - 1) front ≡ key_in name
key_in-dot name front tail split some dot none =
    let before = take (length front - 1) front in
    let whole : name ≡ before ++ 46 ∷ tail = split ∙ ap (λ (l : List ℕ). l ++ tail) (front_and_last front some ∙ ap (λ (b : ℕ). before ++ b ∷ []) dot) ∙ append_assoc before (46 ∷ []) tail in
    sym (ap key_in whole ∙ ap (λ (found : Option (List ℕ)). unwrap_or found (before ++ 46 ∷ tail)) (before_last_dot-at before tail none))

-- there is no dot
pub key_in-whole : (name front tail : List ℕ) → name ≡ front ++ tail → length front ≡ 0 → HasNoDot tail → name ≡ key_in name
key_in-whole name [] tail split done none =
    split ∙ sym (ap key_in split ∙ ap (λ (found : Option (List ℕ)). unwrap_or found tail) (before_last_dot-none tail none))
key_in-whole name (x ∷ xs) tail split done none = absurd (omega arith)
