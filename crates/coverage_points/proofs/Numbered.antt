-- Lists whose elements are numbered.
use Rattle.std.proofs.Common.{◌≡◌, ℕ, ◌+◌, ◌-◌, ◌≤◌, zero, suc, List, [], ◌∷◌, inl, inr, Some, None, ap, subst, arith}
use Rattle.std.specs.List.{slice_get, enumerate_from}
use Rattle.common_lemmas.proofs.Choices.{some_is}
use Rattle.common_lemmas.proofs.Members.{Has}

-- the element that has a number, counted from n
pub record IsNumbered {X : Type 0} (xs : List X) (n m : ℕ) (x : X) : Type 0 where
  pub from : n ≤ m
  pub there : slice_get xs (m - n) ≡ Some x

pub numbered_out : {X : Type 0} (xs : List X) (n m : ℕ) (x : X) → Has (m, x) (enumerate_from n xs) → IsNumbered xs n m x
numbered_out [] n m x h = absurd h
numbered_out {X} (y ∷ ys) n m x (inl e) =
    let first : n ≡ m = ap (λ (p : ℕ × X). p.0) e in
    let at : m - n ≡ 0 = omega arith in
    record { from = omega arith; there = rw at (ap (λ (p : ℕ × X). Some p.1) e) }
numbered_out (y ∷ ys) n m x (inr h) =
    let r = numbered_out ys (n + 1) m x h in
    let at : m - n ≡ suc (m - (n + 1)) = omega (arith, r.from) in
    record { from = omega (arith, r.from); there = rw at r.there }

numbered_at : {X : Type 0} (xs : List X) (n k : ℕ) (x : X) → slice_get xs k ≡ Some x → Has (n + k, x) (enumerate_from n xs)
numbered_at [] n k x e = absurd (let no : None ≡ Some x = e in cc)
numbered_at (y ∷ ys) n zero x e =
    let number : n ≡ n + 0 = omega arith in
    let same : y ≡ x = some_is y x e in
    inl (λ i. (number i, same i))
numbered_at {X} (y ∷ ys) n (suc k) x e =
    let number : (n + 1) + k ≡ n + suc k = omega arith in
    inr (subst (λ (m : ℕ). Has (m, x) (enumerate_from (n + 1) ys)) number (numbered_at ys (n + 1) k x e))

pub numbered_in : {X : Type 0} (xs : List X) (n m : ℕ) (x : X) → IsNumbered xs n m x → Has (m, x) (enumerate_from n xs)
numbered_in xs n m x r =
    let number : n + (m - n) ≡ m = omega (arith, r.from) in
    subst (λ (k : ℕ). Has (k, x) (enumerate_from n xs)) number (numbered_at xs n (m - n) x r.there)
