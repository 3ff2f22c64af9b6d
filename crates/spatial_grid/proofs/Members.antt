-- Lists of the same elements, however often and in whatever order.
use Rattle.std.proofs.Common.{◌≡◌, ◌⊎◌, inl, inr, ⊎_elim, List, [], ◌∷◌, ◌++◌, map, reverse, Option, Some, refl, sym, subst}
use Rattle.std.specs.List.{All, flat_map}
use Rattle.std.proofs.lemmas.List.{reverse-append}
use Rattle.std.proofs.lemmas.List.Elements.{All-nil, All-cons, All-head, All-tail}
use Rattle.common_lemmas.proofs.Members.{Has, has_left, has_right, has_either}

module _ {X : Type 0} where
  -- each element of the one is one of the other
  pub record SameMembers (xs ys : List X) : Type 0 where
    pub there : (x : X) → Has x xs → Has x ys
    pub back : (x : X) → Has x ys → Has x xs

  pub all_has : (P : X → Type 0) (xs : List X) → All P xs → (x : X) → Has x xs → P x
  all_has P [] all x h = absurd h
  all_has P (y ∷ ys) all x (inl e) = subst P e (All-head P y ys all)
  all_has P (y ∷ ys) all x (inr h) = all_has P ys (All-tail P y ys all) x h

  pub has_all : (P : X → Type 0) (xs : List X) → ((x : X) → Has x xs → P x) → All P xs
  has_all P [] each = All-nil P
  has_all P (y ∷ ys) each = All-cons P y ys (each y (inl refl)) (has_all P ys (λ x h. each x (inr h)))

  pub same_itself : (xs ys : List X) → xs ≡ ys → SameMembers xs ys
  same_itself xs ys e = record { there = λ x. subst (Has x) e; back = λ x. subst (Has x) (sym e) }

  pub same_then : (xs ys zs : List X) → SameMembers xs ys → SameMembers ys zs → SameMembers xs zs
  same_then xs ys zs a b = record { there = λ x h. b.there x (a.there x h); back = λ x h. a.back x (b.back x h) }

  pub same_append : (xs ys us vs : List X) → SameMembers xs us → SameMembers ys vs → SameMembers (xs ++ ys) (us ++ vs)
  same_append xs ys us vs a b = record {
    there = λ x h. ⊎_elim (λ l. has_left us vs x (a.there x l)) (λ r. has_right us vs x (b.there x r)) (has_either xs ys x h);
    back = λ x h. ⊎_elim (λ l. has_left xs ys x (a.back x l)) (λ r. has_right xs ys x (b.back x r)) (has_either us vs x h);
  }

  exchanged : (xs ys : List X) → SameMembers (xs ++ ys) (ys ++ xs)
  exchanged xs ys = record {
    there = λ x h. ⊎_elim (has_right ys xs x) (has_left ys xs x) (has_either xs ys x h);
    back = λ x h. ⊎_elim (has_right xs ys x) (has_left xs ys x) (has_either ys xs x h);
  }

  pub same_reversed : (xs : List X) → SameMembers (reverse xs) xs
  same_reversed [] = same_itself [] [] refl
  same_reversed (x ∷ xs) =
      same_then (reverse (x ∷ xs)) (reverse xs ++ x ∷ []) (x ∷ xs) (same_itself _ _ (reverse-append (x ∷ []) xs))
      (same_then (reverse xs ++ x ∷ []) (xs ++ x ∷ []) (x ∷ xs)
      (same_append (reverse xs) (x ∷ []) xs (x ∷ []) (same_reversed xs) (same_itself _ _ refl))
      (exchanged xs (x ∷ [])))

-- the elements of what there is of each item, where each has the same as another list of that item
pub same_of_each : {A B X : Type 0} (f : A → Option B) (g : B → List X) (h : A → List X) → ((a : A) (b : B) → f a ≡ Some b → SameMembers (g b) (h a)) → (xs : List A) (ys : List B) → map f xs ≡ map Some ys → SameMembers (flat_map g ys) (flat_map h xs)
same_of_each f g h each [] [] e = same_itself [] [] refl
same_of_each f g h each [] (y ∷ ys) e = absurd (cc)
same_of_each f g h each (x ∷ xs) [] e = absurd (cc)
same_of_each f g h each (x ∷ xs) (y ∷ ys) e =
    same_append (g y) (flat_map g ys) (h x) (flat_map h xs) (each x y (cc)) (same_of_each f g h each xs ys (cc))
