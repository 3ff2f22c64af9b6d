-- The elements of lists that are joined of others, and the order of such lists.
use Rattle.std.proofs.Common.{inl, inr, List, [], ◌∷◌, refl, sym, subst}
use Rattle.std.specs.List.{flat_map}
use Rattle.common_lemmas.proofs.Members.{Has, has_left, has_right, has_either}

-- an element of a joined list comes from one of the lists
pub record Comes {X A : Type 0} (f : X → List A) (xs : List X) (a : A) : Type 0 where
  pub from : X
  pub among : Has from xs
  pub gives : Has a (f from)

pub comes : {X A : Type 0} (f : X → List A) (xs : List X) (a : A) → Has a (flat_map f xs) → Comes f xs a
comes f [] a h = absurd h
comes f (x ∷ xs) a h =
    elim (has_either (f x) (flat_map f xs) a h) [
      | inl q ↦ record { from = x; among = inl refl; gives = q }
      | inr q ↦ let r = comes f xs a q in record { from = r.from; among = inr r.among; gives = r.gives }
    ]

-- what one of the lists has is in the joined list
pub goes : {X A : Type 0} (f : X → List A) (xs : List X) (x : X) (a : A) → Has x xs → Has a (f x) → Has a (flat_map f xs)
goes f [] x a h q = absurd h
goes f (y ∷ ys) x a (inl e) q = has_left (f y) (flat_map f ys) a (subst (λ z. Has a (f z)) (sym e) q)
goes f (y ∷ ys) x a (inr h) q = has_right (f y) (flat_map f ys) a (goes f ys x a h q)
