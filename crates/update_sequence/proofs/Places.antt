-- A list around a place.
use Rattle.std.proofs.Common.{◌≡◌, ℕ, suc, ◌+◌, ◌<◌, List, ◌∷◌, ◌++◌, length, get_or, take, drop, sym, ◌∙◌, ap, add-one, take-append-drop}
use Rattle.std.proofs.Math.Seq.{drop-cons}

-- from a place on a list begins with the item there
pub from_place : {A : Type 0} (xs : List A) (i : ℕ) (x : A) → i < length xs → x ≡ get_or xs i x → drop i xs ≡ x ∷ drop (i + 1) xs
from_place xs i x h e = rw add-one (drop-cons xs i x h ∙ ap (λ y. y ∷ drop (suc i) xs) (sym e))

-- a list is what stands before the item at a place, the item, and what stands behind it
pub around_place : {A : Type 0} (xs : List A) (i : ℕ) (x : A) → i < length xs → x ≡ get_or xs i x → xs ≡ take i xs ++ x ∷ drop (i + 1) xs
around_place xs i x h e = sym (take-append-drop i xs) ∙ ap (λ l. take i xs ++ l) (from_place xs i x h e)
