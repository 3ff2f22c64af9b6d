-- What each part of a list is.
use Rattle.std.proofs.Common.{◌≡◌, Bool, ◌||◌, List, [], ◌∷◌, ◌++◌, Option, Some, None, refl, sym, ap, ◌∙◌, append_assoc, append-nil, length, arith}
use Rattle.std.specs.Prelude.{is_none}
use Rattle.std.specs.List.{list_any}
use Rattle.lookup_table.specs.Reading.{behind, each}

-- what was found, before what is left
abbrev pub front : {X : Type 0} → List X → Option (List X) → Option (List X)
front done None = None
front done (Some more) = Some (done ++ more)

pub no_elements : {X : Type 0} (xs : List X) → length xs ≡ 0 → xs ≡ []
no_elements [] h = refl
no_elements (x ∷ xs) h = absurd (omega (arith, h))

module _ {X Y : Type 0} (f : X → Option Y) where
  pub each-nil : each f [] ≡ Some []
  unfolding each
  each-nil = refl

  pub each-cons : (x : X) (xs : List X) → each f (x ∷ xs) ≡ behind (f x) (each f xs)
  unfolding each
  each-cons x xs = refl

  pub front-nil : (o : Option (List Y)) → front [] o ≡ o
  front-nil None = refl
  front-nil (Some ys) = refl

  front-behind : (done : List Y) (y : Y) (o : Option (List Y)) → front done (behind (Some y) o) ≡ front (done ++ y ∷ []) o
  front-behind done y None = refl
  front-behind done y (Some ys) = ap (λ (l : List Y). Some l) (sym (append_assoc done (y ∷ []) ys))

  -- a part that is something
  pub each-some : (done : List Y) (x : X) (y : Y) (xs : List X) → f x ≡ Some y → front (done ++ y ∷ []) (each f xs) ≡ front done (each f (x ∷ xs))
  each-some done x y xs e =
      sym (ap (front done) (each-cons x xs ∙ ap (λ (o : Option Y). behind o (each f xs)) e) ∙ front-behind done y (each f xs))

  -- a part that is nothing
  pub each-none : (done : List Y) (x : X) (xs : List X) → f x ≡ None → front done (each f (x ∷ xs)) ≡ None
  each-none done x xs e = ap (front done) (each-cons x xs ∙ ap (λ (o : Option Y). behind o (each f xs)) e)

  pub each-end : (done : List Y) → front done (each f []) ≡ Some done
  each-end done = ap (front done) each-nil ∙ ap (λ (l : List Y). Some l) (append-nil done)

  by_parts : (o : Option Y) (p : Option (List Y)) → is_none (behind o p) ≡ (is_none o || is_none p)
  by_parts None p = refl
  by_parts (Some y) None = refl
  by_parts (Some y) (Some ys) = refl

  -- the whole is nothing where a part is
  pub each-missing : (xs : List X) → is_none (each f xs) ≡ list_any (λ x. is_none (f x)) xs
  each-missing [] = ap is_none each-nil
  each-missing (x ∷ xs) =
      ap is_none (each-cons x xs) ∙ by_parts (f x) (each f xs) ∙ ap (λ (b : Bool). is_none (f x) || b) (each-missing xs)

  -- ---- a walk over what is left

  pub each_step : (done : List Y) (old : List X) (x : X) (new : List X) (y : Y) (whole : Option (List Y)) → old ≡ x ∷ new → f x ≡ Some y
      → front done (each f old) ≡ whole → front (done ++ y ∷ []) (each f new) ≡ whole
  each_step done old x new y whole e is so_far =
      each-some done x y new is ∙ ap (λ (l : List X). front done (each f l)) (sym e) ∙ so_far

  pub each_failed : (done : List Y) (old : List X) (x : X) (new : List X) (whole : Option (List Y)) → old ≡ x ∷ new → f x ≡ None
      → front done (each f old) ≡ whole → None ≡ whole
  each_failed done old x new whole e none so_far =
      sym (each-none done x new none) ∙ ap (λ (l : List X). front done (each f l)) (sym e) ∙ so_far

  pub each_done : (done : List Y) (old : List X) (whole : Option (List Y)) → old ≡ [] → front done (each f old) ≡ whole → Some done ≡ whole
  each_done done old whole e so_far =
      sym (each-end done) ∙ ap (λ (l : List X). front done (each f l)) (sym e) ∙ so_far
