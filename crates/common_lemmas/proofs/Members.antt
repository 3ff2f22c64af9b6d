-- Elements of lists, and lists in a strict order: two of them with the same elements are one.
use Rattle.std.proofs.Common.{◌≡◌, ◌⊎◌, inl, inr, ℕ, zero, suc, ◌<◌, List, [], ◌∷◌, ◌++◌, length, get_or, refl, sym, ◌∙◌}
use Rattle.std.proofs.Common.{subst, arith}
use Rattle.std.specs.List.{Contains, AllPairs}

-- the element is in the list
abbrev pub Has : {X : Type 0} → X → List X → Type 0
Has x [] = ⊥
Has x (y ∷ ys) = (y ≡ x) ⊎ Has x ys

pub has_out : {X : Type 0} (xs : List X) (x : X) → Contains xs x → Has x xs
has_out [] x (k, lt, e) = absurd (omega arith)
has_out (y ∷ ys) x (zero, lt, e) = inl e
has_out (y ∷ ys) x (suc k, lt, e) = inr (has_out ys x (k, omega arith, e))

pub has_in : {X : Type 0} (xs : List X) (x : X) → Has x xs → Contains xs x
has_in [] x h = absurd h
has_in (y ∷ ys) x (inl e) = (0, omega arith, e)
has_in (y ∷ ys) x (inr h) =
    let w = has_in ys x h in
    (suc w.0, omega (arith, w.1), w.2)

pub has_left : {X : Type 0} (xs ys : List X) (x : X) → Has x xs → Has x (xs ++ ys)
has_left [] ys x h = absurd h
has_left (z ∷ zs) ys x (inl e) = inl e
has_left (z ∷ zs) ys x (inr h) = inr (has_left zs ys x h)

pub has_right : {X : Type 0} (xs ys : List X) (x : X) → Has x ys → Has x (xs ++ ys)
has_right [] ys x h = h
has_right (z ∷ zs) ys x h = inr (has_right zs ys x h)

pub has_either : {X : Type 0} (xs ys : List X) (x : X) → Has x (xs ++ ys) → Has x xs ⊎ Has x ys
has_either [] ys x h = inr h
has_either (z ∷ zs) ys x (inl e) = inl (inl e)
has_either (z ∷ zs) ys x (inr h) = elim (has_either zs ys x h) [ inl a ↦ inl (inr a) | inr b ↦ inr b ]

module _ {X : Type 0} (R : X → X → Type 0) where
  abbrev pub IsBefore : X → List X → Type 0
  IsBefore x [] = Unit {0}
  IsBefore x (y ∷ ys) = R x y × IsBefore x ys

  -- each element stands before all behind it
  abbrev pub Rises : List X → Type 0
  Rises [] = Unit {0}
  Rises (x ∷ xs) = IsBefore x xs × Rises xs

  pub before_each : (x : X) (ys : List X) (y : X) → IsBefore x ys → Has y ys → R x y
  before_each x [] y before h = absurd h
  before_each x (z ∷ zs) y before (inl e) = subst (R x) e before.0
  before_each x (z ∷ zs) y before (inr h) = before_each x zs y before.1 h

  pub before_all : (x : X) (ys : List X) → ((y : X) → Has y ys → R x y) → IsBefore x ys
  before_all x [] h = tt
  before_all x (y ∷ ys) h = (h y (inl refl), before_all x ys (λ z q. h z (inr q)))

  before_at : (x : X) (ys : List X) (j : ℕ) (d : X) → IsBefore x ys → j < length ys → R x (get_or ys j d)
  before_at x [] j d before lt = absurd (omega (arith, lt))
  before_at x (y ∷ ys) zero d before lt = before.0
  before_at x (y ∷ ys) (suc j) d before lt = before_at x ys j d before.1 (omega (arith, lt))

  pub all_pairs : (xs : List X) → Rises xs → AllPairs R xs
  all_pairs [] rises i j d lt fits = absurd (omega (arith, fits))
  all_pairs (x ∷ xs) rises zero zero d lt fits = absurd (omega (arith, lt))
  all_pairs (x ∷ xs) rises zero (suc j) d lt fits = before_at x xs j d rises.0 (omega (arith, fits))
  all_pairs (x ∷ xs) rises (suc i) zero d lt fits = absurd (omega (arith, lt))
  all_pairs (x ∷ xs) rises (suc i) (suc j) d lt fits =
      all_pairs xs rises.1 i j d (omega (arith, lt)) (omega (arith, fits))

  before_from : (x : X) (ys : List X) → ((j : ℕ) (d : X) → j < length ys → R x (get_or ys j d)) → IsBefore x ys
  before_from x [] h = tt
  before_from x (y ∷ ys) h = (h 0 x (omega arith), before_from x ys (λ j d lt. h (suc j) d (omega (arith, lt))))

  pub rises_from : (xs : List X) → AllPairs R xs → Rises xs
  rises_from [] pairs = tt
  rises_from (x ∷ xs) pairs = (
    before_from x xs (λ j d lt. pairs 0 (suc j) d (omega arith) (omega (arith, lt))),
    rises_from xs (λ i j d lt fits. pairs (suc i) (suc j) d (omega (arith, lt)) (omega (arith, fits))),
  )

  module _ (apart : (x y : X) → R x y → R y x → ⊥) where
    heads : (x y : X) (xs ys : List X) → IsBefore x xs → IsBefore y ys → Has y (x ∷ xs) → Has x (y ∷ ys) → x ≡ y
    heads x y xs ys first second (inl e) there = e
    heads x y xs ys first second (inr h) (inl e) = sym e
    heads x y xs ys first second (inr h) (inr k) =
        absurd (apart x y (before_each x xs y first h) (before_each y ys x second k))

    others : (x y : X) (xs ys : List X) → x ≡ y → IsBefore x xs → ((z : X) → Has z (x ∷ xs) → Has z (y ∷ ys)) → (z : X)
        → Has z xs → Has z ys
    others x y xs ys e first to z h =
        elim (to z (inr h)) [
          | inl same ↦
              let less = before_each x xs z first h in
              let itself : R x x = subst (R x) (sym (e ∙ same)) less in
              absurd (apart x x itself itself)
          | inr k ↦ k
        ]

    pub one_list : (xs ys : List X) → Rises xs → Rises ys → ((z : X) → Has z xs → Has z ys)
        → ((z : X) → Has z ys → Has z xs) → xs ≡ ys
    one_list [] [] first second to from = refl
    one_list [] (y ∷ ys) first second to from = absurd (from y (inl refl))
    one_list (x ∷ xs) [] first second to from = absurd (to x (inl refl))
    one_list (x ∷ xs) (y ∷ ys) first second to from =
        let same = heads x y xs ys first.0 second.0 (from y (inl refl)) (to x (inl refl)) in
        let rest =
        one_list xs ys first.1 second.1 (others x y xs ys same first.0 to) (others y x ys xs (sym same) second.0 from)
        in
        λ i. same i ∷ rest i
