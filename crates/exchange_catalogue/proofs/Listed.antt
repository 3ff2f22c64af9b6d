-- The paths of cell files and their places: two paths of one order are one path.
use Rattle.std.proofs.Common.{◌≡◌, ◌⊎◌, inl, inr, ℕ, ◌+◌, ◌<◌, ◌≤◌, Bool, true, false, cond, List, [], ◌∷◌, Option}
use Rattle.std.proofs.Common.{Some, None, refl, sym, ap, ◌∙◌, subst, arith}
use Rattle.std.specs.Prelude.{is_some, option_map}
use Rattle.std.specs.List.{position_from, cons_option}
use Rattle.std.specs.Option.{option_map_or, unwrap_or}
use Rattle.std.specs.Ordering.{is_eq, ordering_then, ordering_reverse, nat_cmp}
use Rattle.std.specs.Str.{bytes_eq}
use Rattle.std.specs.Cmp.{IsTotalOrder, nat_cmp_total, tied_itself}
use Rattle.std.specs.Cmp.Lexicographic.{slice_cmp, nat_list_cmp_total, texts_ties}
use Rattle.std.specs.FinMap.{nat_cmp-IsAntisymmetric}
use Rattle.std.specs.declared.cmp.Ordering.{Ordering}
use Rattle.std.specs.declared.cmp.Ordering.TheVariants.{Less, Equal, Greater}
use Rattle.std.proofs.lemmas.Bool.{true≢false}
use Rattle.std.proofs.lemmas.Cmp.{on_total, then_total}
use Rattle.common_lemmas.proofs.Choices.{some_is}
use Rattle.chart_model.specs.Keys.{key_cmp}
use Rattle.exchange_catalogue.specs.Paths.{cell_path_of}
use Rattle.exchange_catalogue.specs.Orders.{cell_paths, stem_of, number_of, has_path, place_of, load_cmp}
use Rattle.exchange_catalogue.specs.declared.entry.Entry.{Entry}
use Rattle.common_lemmas.proofs.Members.{Has}
use Rattle.exchange_catalogue.proofs.Noted.{same_path}

-- ---- the order

pub load_total : (entries : List Entry) → IsTotalOrder (load_cmp entries)
load_total entries =
    then_total (on_total stem_of nat_list_cmp_total)
    (then_total (on_total number_of nat_cmp_total) (on_total (place_of entries) nat_cmp_total))

both_tie : (r s : Ordering) → ordering_then r s ≡ Equal → (r ≡ Equal) × (s ≡ Equal)
both_tie Less s e = absurd cc
both_tie Equal s e = (refl, e)
both_tie Greater s e = absurd cc

tied_places : (entries : List Entry) (a b : List ℕ) → load_cmp entries a b ≡ Equal
    → place_of entries a ≡ place_of entries b
tied_places entries a b e =
    nat_cmp-IsAntisymmetric (place_of entries a) (place_of entries b)
    (both_tie _ _ (both_tie (slice_cmp nat_cmp (stem_of a) (stem_of b)) _ e).1).1

-- ---- places

itself : (path : List ℕ) → bytes_eq path path ≡ true
itself path = texts_ties path path ∙ ap is_eq (tied_itself nat_list_cmp_total path)

found-by : (path : List ℕ) (n : ℕ) (rest : Option ℕ) (others : List (List ℕ)) (o : Option (List ℕ))
    → (Has path others → is_some rest ≡ true)
    → Has path (cons_option o others) → is_some (cond (option_map_or (bytes_eq path) o false) (Some n) rest) ≡ true
found-by path n rest others None later h = later h
found-by path n rest others (Some other) later (inl e) =
    ap (λ (b : Bool). is_some (cond b (Some n) rest)) (ap (bytes_eq path) e ∙ itself path)
found-by path n rest others (Some other) later (inr h) = over (bytes_eq path other) (later h)
  where
    over : (b : Bool) → is_some rest ≡ true → is_some (cond b (Some n) rest) ≡ true
    over true e = refl
    over false e = e

-- a path that is listed has a place
pub listed-found : (entries : List Entry) (n : ℕ) (path : List ℕ) → Has path (cell_paths entries)
    → is_some (position_from (has_path path) n entries) ≡ true
listed-found [] n path h = absurd h
listed-found (entry ∷ entries) n path h =
    found-by path n (position_from (has_path path) (n + 1) entries) (cell_paths entries) (cell_path_of entry)
    (listed-found entries (n + 1) path) h

listed-by : (path : List ℕ) (n : ℕ) (rest : Option ℕ) (others : List (List ℕ)) (o : Option (List ℕ))
    → (is_some rest ≡ true → Has path others)
    → is_some (cond (option_map_or (bytes_eq path) o false) (Some n) rest) ≡ true → Has path (cons_option o others)
listed-by path n rest others None later e = later e
listed-by path n rest others (Some other) later e = by (bytes_eq path other) refl e
  where
    by : (b : Bool) → bytes_eq path other ≡ b → is_some (cond b (Some n) rest) ≡ true → (other ≡ path) ⊎ Has path others
    by true q h = inl (sym (same_path path other q))
    by false q h = inr (later h)

-- and one that has a place is listed
pub found-listed : (entries : List Entry) (n : ℕ) (path : List ℕ)
    → is_some (position_from (has_path path) n entries) ≡ true → Has path (cell_paths entries)
found-listed [] n path e = absurd (true≢false (sym e))
found-listed (entry ∷ entries) n path e =
    listed-by path n (position_from (has_path path) (n + 1) entries) (cell_paths entries) (cell_path_of entry)
    (found-listed entries (n + 1) path) e

low : (test : Entry → Bool) (entries : List Entry) (n k : ℕ) → position_from test n entries ≡ Some k → n ≤ k
low test [] n k e = absurd cc
low test (entry ∷ entries) n k e = by (test entry) (low test entries (n + 1) k) e
  where
    by : (b : Bool) → (position_from test (n + 1) entries ≡ Some k → n + 1 ≤ k)
        → cond b (Some n) (position_from test (n + 1) entries) ≡ Some k → n ≤ k
    by true later q = let same : n ≡ k = some_is n k q in omega arith
    by false later q = let above : n + 1 ≤ k = later q in omega arith

-- two paths with one place are one path
pub one-path : (entries : List Entry) (n k : ℕ) (a b : List ℕ) → position_from (has_path a) n entries ≡ Some k
    → position_from (has_path b) n entries ≡ Some k → a ≡ b
one-path [] n k a b p q = absurd cc
one-path (entry ∷ entries) n k a b p q =
    by (cell_path_of entry) (one-path entries (n + 1) k a b) (low (has_path a) entries (n + 1) k)
    (low (has_path b) entries (n + 1) k) p q
  where
    first : Option ℕ
    first = position_from (has_path a) (n + 1) entries

    second : Option ℕ
    second = position_from (has_path b) (n + 1) entries

    by : (o : Option (List ℕ)) → (first ≡ Some k → second ≡ Some k → a ≡ b) → (first ≡ Some k → n + 1 ≤ k)
        → (second ≡ Some k → n + 1 ≤ k)
        → cond (option_map_or (bytes_eq a) o false) (Some n) first ≡ Some k
        → cond (option_map_or (bytes_eq b) o false) (Some n) second ≡ Some k → a ≡ b
    by None later low_a low_b p q = later p q
    by (Some other) later low_a low_b p q = go (bytes_eq a other) refl (bytes_eq b other) refl p q
      where
        go : (u : Bool) → bytes_eq a other ≡ u → (v : Bool) → bytes_eq b other ≡ v → cond u (Some n) first ≡ Some k
            → cond v (Some n) second ≡ Some k → a ≡ b
        go true u true v p q = same_path a other u ∙ sym (same_path b other v)
        go true u false v p q =
            let here : n ≡ k = some_is n k p in
            let above : n + 1 ≤ k = low_b q in
            absurd (omega arith)
        go false u true v p q =
            let here : n ≡ k = some_is n k q in
            let above : n + 1 ≤ k = low_a p in
            absurd (omega arith)
        go false u false v p q = later p q

pub place-is : (entries : List Entry) (path : List ℕ) (k : ℕ) → position_from (has_path path) 0 entries ≡ Some k
    → place_of entries path ≡ k
unfolding place_of
place-is entries path k e = ap (λ (o : Option ℕ). unwrap_or o 0) e

at_place : (o : Option ℕ) → is_some o ≡ true → o ≡ Some (unwrap_or o 0)
at_place None e = absurd (true≢false (sym e))
at_place (Some k) e = refl

found-at : (entries : List Entry) (path : List ℕ) → Has path (cell_paths entries)
    → position_from (has_path path) 0 entries ≡ Some (place_of entries path)
unfolding place_of
found-at entries path h = at_place (position_from (has_path path) 0 entries) (listed-found entries 0 path h)

-- listed paths that tie are one path
pub tied-path : (entries : List Entry) (a b : List ℕ) → Has a (cell_paths entries) → Has b (cell_paths entries)
    → load_cmp entries a b ≡ Equal → a ≡ b
tied-path entries a b p q e =
    one-path entries 0 (place_of entries a) a b (found-at entries a p)
    (found-at entries b q ∙ ap (λ (k : ℕ). Some k) (sym (tied_places entries a b e)))
