-- Lists whose elements are numbered.
use Rattle.std.proofs.Common.{◌≡◌, ℕ, ◌+◌, ◌-◌, ◌<◌, ◌≤◌, zero, suc, List, [], ◌∷◌, inl, inr, Some, None, ap, subst, arith}
use Rattle.std.specs.List.{slice_get, enumerate_from}
use Rattle.common_lemmas.proofs.Members.{Has, IsBefore, Rises}

-- ---- which elements have which numbers

pub record IsNumbered {X : Type 0} (xs : List X) (n m : ℕ) (x : X) : Type 0 where
  pub from : n ≤ m
  pub there : slice_get xs (m - n) ≡ Some x

pub numbered_out : {X : Type 0} (xs : List X) (n m : ℕ) (x : X) → Has (m, x) (enumerate_from n xs) → IsNumbered xs n m x
numbered_out [] n m x h = absurd h
numbered_out {X} (y ∷ ys) n m x (inl e) =
    let first : n ≡ m = ap (λ (p : ℕ × X). p.0) e in
    let at : m - n ≡ 0 = omega arith in
    record { from = omega arith; there = rw at (ap (λ (p : ℕ × X). Some p.1) e) }
numbered_out (y ∷ ys) n m x (inr h) =
    let r = numbered_out ys (n + 1) m x h in
    let at : m - n ≡ suc (m - (n + 1)) = omega (arith, r.from) in
    record { from = omega (arith, r.from); there = rw at r.there }

pub numbered_in : {X : Type 0} (xs : List X) (n k : ℕ) (x : X) → slice_get xs k ≡ Some x → Has (n + k, x) (enumerate_from n xs)
numbered_in [] n k x e = absurd (let no : None ≡ Some x = e in cc)
numbered_in {X} (y ∷ ys) n zero x e =
    let number : n ≡ n + 0 = omega arith in
    let same : y ≡ x = some_is e in
    inl (λ i. (number i, same i))
  where
    some_is : Some y ≡ Some x → y ≡ x
    some_is e = cc
numbered_in {X} (y ∷ ys) n (suc k) x e =
    let number : (n + 1) + k ≡ n + suc k = omega arith in
    inr (subst (λ (m : ℕ). Has (m, x) (enumerate_from (n + 1) ys)) number (numbered_in ys (n + 1) k x e))

pub numbered_again : {X : Type 0} (xs : List X) (n m : ℕ) (x : X) → IsNumbered xs n m x → Has (m, x) (enumerate_from n xs)
numbered_again xs n m x r =
    let number : n + (m - n) ≡ m = omega (arith, r.from) in
    subst (λ (k : ℕ). Has (k, x) (enumerate_from n xs)) number (numbered_in xs n (m - n) x r.there)

abbrev pub Counts : {X : Type 0} → ℕ × X → ℕ × X → Type 0
Counts p q = p.0 < q.0

counts_before : {X : Type 0} (p : ℕ × X) (xs : List X) (n : ℕ) → p.0 < n → IsBefore Counts p (enumerate_from n xs)
counts_before p [] n lt = tt
counts_before p (x ∷ xs) n lt = (lt, counts_before p xs (n + 1) (omega (arith, lt)))

-- the numbers rise
pub numbers_rise : {X : Type 0} (xs : List X) (n : ℕ) → Rises Counts (enumerate_from n xs)
numbers_rise [] n = tt
numbers_rise (x ∷ xs) n = (counts_before (n, x) xs (n + 1) (omega arith), numbers_rise xs (n + 1))
