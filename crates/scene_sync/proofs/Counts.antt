-- How many calls were counted, and which of a refresh they were.
use Rattle.std.proofs.Common.{◌≡◌, inl, inr, ⊎_elim, ℕ, zero, suc, ◌+◌, ◌≤◌, min, nat_eq, false, if◌then◌else◌, arith, List, [], ◌∷◌, length, take, refl, sym, ap, ◌∙◌}
use Rattle.std.proofs.lemmas.Bool.Decides.{nat_tests}
use Rattle.chart_ports.specs.Count.{LAST, Rose, one_more}
use Rattle.scene_sync.specs.Calls.{CountsUpTo, more_calls}

some-more : (more count : ℕ) → more_calls (suc more) count ≡ min (count + suc more) LAST
some-more more count =
    let e : nat_eq (suc more) 0 ≡ false = grind (arith, nat_tests) in
    ap (λ b. if b then count else min (count + suc more) LAST) e

pub more-add : (i j count : ℕ) → more_calls j (more_calls i count) ≡ more_calls (i + j) count
more-add zero j count = let e : j ≡ zero + j = omega arith in ap (λ n. more_calls n count) e
more-add (suc i) zero count = let e : suc i ≡ suc i + zero = omega arith in ap (λ n. more_calls n count) e
more-add (suc i) (suc j) count =
    let e : suc (suc (i + j)) ≡ suc i + suc j = omega arith in
    let sum : min (min (count + suc i) LAST + suc j) LAST ≡ min (count + suc (suc (i + j))) LAST = omega arith in
    ap (more_calls (suc j)) (some-more i count)
    ∙ some-more j (min (count + suc i) LAST)
    ∙ sum
    ∙ sym (some-more (suc (i + j)) count)
    ∙ ap (λ n. more_calls n count) e

pub more-one : (i count now : ℕ) → now ≡ more_calls i count → one_more now ≡ more_calls (i + 1) count
more-one i count now is = ap one_more is ∙ more-add i 1 count

-- after some calls, a few more
pub counts-on : (i few most count now last : ℕ) → now ≡ more_calls i count → i + few ≤ most
    → CountsUpTo few now last → CountsUpTo most count last
counts-on i few most count now last is fits (more, within, counted) =
    (i + more, omega arith, counted ∙ ap (more_calls more) is ∙ more-add i more count)

-- a count that rose later rose
pub rose-later : (before between now : ℕ) → before ≤ between → Rose between now → Rose before now
rose-later before between now later rose = ⊎_elim (λ rises. inl (omega arith)) (λ last. inr last) rose

pub take-min : {X : Type 0} (n : ℕ) (xs : List X) → take (min (length xs) n) xs ≡ take n xs
take-min zero xs = let e : min (length xs) zero ≡ zero = omega arith in ap (λ k. take k xs) e
take-min {X} (suc n) [] = let e : min zero (suc n) ≡ zero = omega arith in ap (λ k. take {A = X} k []) e
take-min (suc n) (x ∷ xs) =
    let e : min (suc (length xs)) (suc n) ≡ suc (min (length xs) n) = omega arith in
    ap (λ k. take k (x ∷ xs)) e ∙ ap (λ ys. x ∷ ys) (take-min n xs)

pub take-taken : {X : Type 0} (n : ℕ) (xs : List X) → take (length (take n xs)) xs ≡ take n xs
take-taken zero xs = refl
take-taken (suc n) [] = refl
take-taken (suc n) (x ∷ xs) = ap (λ ys. x ∷ ys) (take-taken n xs)
