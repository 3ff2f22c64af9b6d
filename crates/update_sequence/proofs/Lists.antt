-- A list with one item more at its end.
use Rattle.std.proofs.Common.{◌≡◌, ◌⊎◌, inl, inr, List, [], ◌∷◌, ◌++◌, refl, sym, ◌∙◌, ap}
use Rattle.std.proofs.lemmas.List.{append_assoc}

pub cons_is : {A : Type 0} {x y : A} {xs ys : List A} → ◌≡◌ {A = List A} (x ∷ xs) (y ∷ ys) → (x ≡ y) × (xs ≡ ys)
cons_is e = (cc, cc)

pub no_item : {A : Type 0} (before after : List A) (x : A) → [] ≡ before ++ x ∷ after → ⊥
no_item [] after x e = cc
no_item (y ∷ before) after x e = cc

-- an item of a list with one more is the last, or one of the others
pub split_more : {A : Type 0} (xs : List A) (last : A) (before after : List A) (x : A) → xs ++ last ∷ [] ≡ before ++ x ∷ after →
    ((before ≡ xs) × (x ≡ last)) ⊎ ((rest : List A) × (xs ≡ before ++ x ∷ rest))
split_more [] last [] after x e = inl (refl, sym (cons_is e).0)
split_more [] last (y ∷ before) after x e = absurd (no_item before after x (cons_is e).1)
split_more (z ∷ xs) last [] after x e = inr (xs, ap (λ w. w ∷ xs) (cons_is e).0)
split_more {A = A} (z ∷ xs) last (y ∷ before) after x e =
    elim (split_more xs last before after x (cons_is e).1) [
      | inl h ↦ inl (ap (λ w. w ∷ before) (sym (cons_is e).0) ∙ ap (λ (l : List A). z ∷ l) h.0, h.1)
      | inr h ↦ inr (h.0, ap (λ w. w ∷ xs) (cons_is e).0 ∙ ap (λ (l : List A). y ∷ l) h.1)
    ]

-- the item in the middle goes to the front part
pub moved : {A : Type 0} (before after : List A) (x : A) → (before ++ x ∷ []) ++ after ≡ before ++ x ∷ after
moved before after x = append_assoc before (x ∷ []) after
