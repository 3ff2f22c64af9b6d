-- The least of some numbers.
use Rattle.std.proofs.Common.{◌≡◌, ◌⊎◌, inl, inr, suc, zero, ℤ, ◌≤ℤ◌, List, [], ◌∷◌, Some, None, refl, sym, ap, ◌∙◌, subst, arith}
use Rattle.std.specs.List.{fold, All, Contains}
use Rattle.std.specs.Int.{int_min}
use Rattle.std.proofs.lemmas.Int.{ints, fold-int_min_reached, fold-int_min_bounds}
use Rattle.common_lemmas.proofs.Choices.{some_is}
use Rattle.depth_values.specs.Under.{lesser, least}
use Rattle.depth_values.specs.Hazard.{IsLeast}

fold_lesser : (n : ℤ) (others : List ℤ) → fold lesser (Some n) others ≡ Some (fold int_min n others)
fold_lesser n [] = refl
fold_lesser n (m ∷ others) = fold_lesser (int_min n m) others

all_more : (n r : ℤ) (others : List ℤ) → r ≤ℤ n → All (λ x. r ≤ℤ x) others → All (λ x. r ≤ℤ x) (n ∷ others)
all_more n r others here rest zero d lt = here
all_more n r others here rest (suc k) d lt = rest k d (omega (arith, lt))

least_of : (n : ℤ) (others : List ℤ) → IsLeast (n ∷ others) (fold int_min n others)
least_of n others =
    let r = fold int_min n others in
    let b = fold-int_min_bounds n others r refl in
    record { among = reached (fold-int_min_reached n others r refl); none_less = all_more n r others b.0 b.1 }
  where
    reached : (fold int_min n others ≡ n) ⊎ Contains others (fold int_min n others) → Contains (n ∷ others) (fold int_min n others)
    reached (inl e) = (0, omega arith, sym e)
    reached (inr c) = (suc c.0, omega (arith, c.1), c.2)

not_above : (numbers : List ℤ) (a b : ℤ) → IsLeast numbers a → IsLeast numbers b → a ≤ℤ b
not_above numbers a b p q = subst (λ (z : ℤ). a ≤ℤ z) q.among.2 (p.none_less q.among.0 b q.among.1)

one_least : (numbers : List ℤ) (a b : ℤ) → IsLeast numbers a → IsLeast numbers b → a ≡ b
one_least numbers a b p q = omega (arith, ints, not_above numbers a b p q, not_above numbers b a q p)

pub least_found : (numbers : List ℤ) (n : ℤ) → least numbers ≡ Some n → IsLeast numbers n
least_found [] n e = absurd (let none : None ≡ Some n = e in cc)
least_found (m ∷ others) n e =
    subst (IsLeast (m ∷ others)) (some_is _ _ (sym (fold_lesser m others) ∙ e)) (least_of m others)

pub least_again : (numbers : List ℤ) (n : ℤ) → IsLeast numbers n → least numbers ≡ Some n
least_again [] n p = absurd (omega (arith, p.among.1))
least_again (m ∷ others) n p = fold_lesser m others ∙ ap Some (one_least (m ∷ others) _ n (least_of m others) p)
