-- One word more is marked.
use Rattle.std.proofs.Common.{◌≡◌, ℕ, ◌+◌, ◌<◌, ◌≤◌, List, [], ◌∷◌, ◌++◌, length, get_or, drop, map, refl, sym, ap, ap₂, ◌∙◌, append_assoc, append-nil}
use Rattle.std.proofs.lemmas.List.{drop_more, at_drop_all, map-append}
use Rattle.picture_words.specs.Marked.{after, marked, marked_from}
use Rattle.picture_words.specs.declared.marked.Next.{Next}

marked_from-cons : (next : Next) (word : List ℕ) (more : List (List ℕ))
    → marked_from next (word ∷ more) ≡ marked next word ∷ marked_from (after next word) more
unfolding marked_from
marked_from-cons next word more = refl

marked_from-nil : (next : Next) → marked_from next [] ≡ []
unfolding marked_from
marked_from-nil next = refl

-- the words that are marked, and those that are left, are all of them
marked-step : {X : Type 0} (f : X → List ℕ) (xs : List X) (i : ℕ) (x : X) (next : Next) (done all : List (List ℕ))
    → i < length xs → x ≡ get_or xs i x → done ++ marked_from next (map f (drop i xs)) ≡ all
    → (done ++ marked next (f x) ∷ []) ++ marked_from (after next (f x)) (map f (drop (i + 1) xs)) ≡ all
marked-step {X = X} f xs i x next done all lt is before =
    append_assoc done (marked next (f x) ∷ []) (marked_from (after next (f x)) (map f (drop (i + 1) xs)))
    ∙ ap (λ (l : List (List ℕ)). done ++ l) (sym (marked_from-cons next (f x) (map f (drop (i + 1) xs))))
    ∙ ap (λ (l : List X). done ++ marked_from next (map f l))
    (ap (λ (y : X). y ∷ drop (i + 1) xs) is ∙ sym (drop_more xs i x lt))
    ∙ before

pub marked-more : {X Y : Type 0} (f : X → List ℕ) (g : Y → List ℕ) (xs : List X) (i : ℕ) (x : X) (next then : Next)
    (shown : List ℕ) (old new : List Y) (y : Y) (all : List (List ℕ)) → i < length xs → x ≡ get_or xs i x → shown ≡ f x
    → g y ≡ marked next shown → then ≡ after next shown → new ≡ old ++ y ∷ []
    → map g old ++ marked_from next (map f (drop i xs)) ≡ all
    → map g new ++ marked_from then (map f (drop (i + 1) xs)) ≡ all
marked-more f g xs i x next then shown old new y all lt is said made follows grown before =
    ap₂ (λ (a : List (List ℕ)) (n : Next). a ++ marked_from n (map f (drop (i + 1) xs)))
    (ap (map g) grown ∙ map-append g old (y ∷ [])
    ∙ ap (λ (m : List ℕ). map g old ++ m ∷ []) (made ∙ ap (marked next) said))
    (follows ∙ ap (after next) said)
    ∙ marked-step f xs i x next (map g old) all lt is before

pub marked-all : {X : Type 0} (f : X → List ℕ) (xs : List X) (i : ℕ) (next : Next) (done all : List (List ℕ))
    → length xs ≤ i → done ++ marked_from next (map f (drop i xs)) ≡ all → done ≡ all
marked-all {X = X} f xs i next done all past before =
    sym (append-nil done)
    ∙ ap (λ (l : List (List ℕ)). done ++ l) (sym (marked_from-nil next))
    ∙ sym (at_drop_all (λ (l : List X). done ++ marked_from next (map f l)) xs i past)
    ∙ before
