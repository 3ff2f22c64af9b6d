-- Files that are sorted by their ranks are in the load order.
use Rattle.std.proofs.Common.{◌≡◌, ℕ, ◌+◌, ◌<◌, ◌≤◌, Bool, true, false, List, [], ◌∷◌, length, get_or, map, Option}
use Rattle.std.proofs.Common.{Some, None, refl, sym, ap, ◌∙◌, subst, arith}
use Rattle.std.specs.Prelude.{◌↔◌, is_some, option_map}
use Rattle.std.specs.BTreeMap.{BTreeMap, get, keys}
use Rattle.std.specs.Map.{keys_of}
use Rattle.std.specs.List.{All, AllPairs, Contains, IsDistinct, position_from}
use Rattle.std.specs.List.Sorted.{IsPermutation, IsSorted}
use Rattle.std.specs.Ordering.{is_lt, is_eq, eq_by_cmp, ordering_then, ordering_reverse, nat_cmp}
use Rattle.std.specs.Cmp.{tied_itself}
use Rattle.std.specs.Cmp.Lexicographic.{nat_list_cmp_total}
use Rattle.std.specs.declared.cmp.Ordering.{Ordering}
use Rattle.std.specs.declared.cmp.Ordering.TheVariants.{Less, Equal, Greater}
use Rattle.std.proofs.lemmas.Bool.{true≢false}
use Rattle.std.proofs.lemmas.Cmp.{eq_by_cmp_equiv}
use Rattle.std.proofs.lemmas.List.{get_or-map, length-map}
use Rattle.std.proofs.lemmas.List.Elements.{All-map}
use Rattle.std.proofs.lemmas.List.Sorted.{IsPermutation-map, IsPermutation-sym, All-permutation, Contains-permutation}
use Rattle.std.proofs.lemmas.Map.Keys.{IsDistinct-from_sorted, IsDistinct-IsPermutation, apart_from_distinct}
use Rattle.std.proofs.lemmas.Map.Keys.{sorted_from_all_adjacent, Less-from_sorted}
use Rattle.std.proofs.lemmas.Map.Lookups.{exact_bytes}
use Rattle.std.proofs.lemmas.Map.Views.{All-found, btree_map_contains_key_iff}
use Rattle.common_lemmas.proofs.Choices.{map_some}
use Rattle.chart_model.specs.Keys.{key_cmp}
use Rattle.exchange_catalogue.specs.Firsts.{rank_at, first_rank, file_of, AreFirst}
use Rattle.exchange_catalogue.specs.Orders.{cell_paths, has_path, place_of, load_cmp, IsLoadOrder}
use Rattle.exchange_catalogue.specs.declared.cell_file.CellFile.{CellFile}
use Rattle.exchange_catalogue.specs.declared.cell_file.Rank.{Rank}
use Rattle.exchange_catalogue.specs.declared.entry.Entry.{Entry}
use Rattle.common_lemmas.proofs.Members.{Has, has_in, has_out}
use Rattle.exchange_catalogue.proofs.Listed.{load_total, listed-found, found-listed, place-is, tied-path}

-- the order of files: by rank, and then by path
abbrev pub file_cmp : CellFile → CellFile → Ordering
file_cmp x y =
    ordering_then
    (ordering_then (key_cmp x.rank.stem y.rank.stem)
    (ordering_then (nat_cmp x.rank.number y.rank.number) (nat_cmp x.rank.place y.rank.place)))
    (key_cmp x.path y.path)

abbrev pub path_in : CellFile → List ℕ
path_in file = file.path

-- the file is listed, and ranked by its first entry
record IsRanked (entries : List Entry) (file : CellFile) : Type 0 where
  listed : Has file.path (cell_paths entries)
  ranked : file.rank ≡ rank_at file.path (place_of entries file.path)

paths-of : (es : List (List ℕ × Rank)) → map path_in (map file_of es) ≡ keys_of es
paths-of [] = refl
paths-of (e ∷ es) = ap (λ (l : List (List ℕ)). e.0 ∷ l) (paths-of es)

some_mapped : {A B : Type 0} (f : A → B) (o : Option A) → is_some (option_map f o) ≡ is_some o
some_mapped f None = refl
some_mapped f (Some x) = refl

module _ (entries : List Entry) where
  ranked-each : (path : List ℕ) (rank : Rank) → first_rank 0 entries path ≡ Some rank
      → IsRanked entries (record { rank = rank; path = path })
  ranked-each path rank e =
      let found = map_some (rank_at path) (position_from (has_path path) 0 entries) rank e in
      record {
        listed = found-listed entries 0 path (ap is_some found.1);
        ranked = sym found.2 ∙ ap (rank_at path) (sym (place-is entries path found.0 found.1));
      }

  -- ---- two files side by side

  same_order : (a b : CellFile) → IsRanked entries a → IsRanked entries b
      → file_cmp b a ≡ ordering_then (load_cmp entries b.path a.path) (key_cmp b.path a.path)
  same_order a b p q = λ i. file_cmp (record { rank = q.ranked i; path = b.path })
      (record { rank = p.ranked i; path = a.path })

  above : (a b : CellFile) → IsRanked entries a → IsRanked entries b → is_lt (file_cmp b a) ≡ false
      → (a.path ≡ b.path → ⊥)
      → load_cmp entries a.path b.path ≡ Less
  above a b p q sorted differ =
      (load_total entries).antisymm a.path b.path
      ∙ by (load_cmp entries b.path a.path) refl (ap is_lt (sym (same_order a b p q)) ∙ sorted)
    where
      by : (o : Ordering) → load_cmp entries b.path a.path ≡ o → is_lt (ordering_then o (key_cmp b.path a.path)) ≡ false
          → ordering_reverse o ≡ Less
      by Less e h = absurd (true≢false h)
      by Equal e h = absurd (differ (sym (tied-path entries b.path a.path q.listed p.listed e)))
      by Greater e h = refl

  module _ (files sorted : List CellFile) (first : AreFirst entries files) (moved : IsPermutation files sorted)
      (ordered : IsSorted file_cmp sorted) where
    abbrev paths : List (List ℕ)
    paths = map path_in sorted

    paths-moved : IsPermutation (keys first.ranks) paths
    paths-moved =
        subst (λ (l : List (List ℕ)). IsPermutation l paths)
        (ap (map path_in) first.listed ∙ paths-of first.ranks.entries)
        (IsPermutation-map path_in files sorted moved)

    all_ranked : All (IsRanked entries) sorted
    all_ranked =
        All-permutation (IsRanked entries) files sorted moved
        (subst (All (IsRanked entries)) (sym first.listed)
        (All-map (IsRanked entries) file_of first.ranks.entries
        (λ k d lt. ranked-each _ _ (sym (first.first _)
        ∙ All-found nat_list_cmp_total first.ranks first.ordered k d lt))))

    -- ---- each once

    distinct : IsDistinct (eq_by_cmp key_cmp) paths
    distinct =
        IsDistinct-IsPermutation (eq_by_cmp key_cmp) (eq_by_cmp_equiv nat_list_cmp_total).symm (keys first.ranks) paths
        paths-moved
        (IsDistinct-from_sorted key_cmp (keys first.ranks) first.ordered)

    differ : (k : ℕ) (d : List ℕ) → k + 1 < length paths → get_or paths k d ≡ get_or paths (k + 1) d → ⊥
    differ k d lt e =
        let tie : eq_by_cmp key_cmp (get_or paths k d) (get_or paths (k + 1) d) ≡ true =
        ap (λ (p : List ℕ). eq_by_cmp key_cmp (get_or paths k d) p) (sym e)
        ∙ ap is_eq (tied_itself nat_list_cmp_total (get_or paths k d)) in
        true≢false (sym tie ∙ apart_from_distinct (eq_by_cmp key_cmp) paths k (k + 1) d distinct (omega arith) lt)

    none : CellFile
    none = record { rank = record { stem = []; number = 0; place = 0 }; path = [] }

    adjacent : (k : ℕ) → k + 1 < length paths → load_cmp entries (get_or paths k []) (get_or paths (k + 1) []) ≡ Less
    adjacent k lt =
        let within : k + 1 < length sorted = omega (arith, length-map sorted path_in, lt) in
        let here : get_or paths k [] ≡ (get_or sorted k none).path =
        get_or-map path_in sorted k none [] (omega arith) in
        let next : get_or paths (k + 1) [] ≡ (get_or sorted (k + 1) none).path =
        get_or-map path_in sorted (k + 1) none [] within in
        (λ i. load_cmp entries (here i) (next i))
        ∙ above (get_or sorted k none) (get_or sorted (k + 1) none) (all_ranked k none (omega arith))
        (all_ranked (k + 1) none within)
        (ordered k none (omega arith) within) (λ e. differ k [] lt (here ∙ e ∙ sym next))

    -- ---- all of them

    to : (path : List ℕ) → Contains paths path → Contains (cell_paths entries) path
    to path h =
        let among = Contains-permutation paths (keys first.ranks) path
        (IsPermutation-sym (keys first.ranks) paths paths-moved) h in
        let found = (btree_map_contains_key_iff nat_list_cmp_total exact_bytes first.ranks path).1 among in
        let place = sym (some_mapped (rank_at path) (position_from (has_path path) 0 entries))
        ∙ ap is_some (sym (first.first path)) ∙ found in
        has_in (cell_paths entries) path (found-listed entries 0 path place)

    from : (path : List ℕ) → Contains (cell_paths entries) path → Contains paths path
    from path h =
        let place = listed-found entries 0 path (has_out (cell_paths entries) path h) in
        let found = ap is_some (first.first path) ∙ some_mapped (rank_at path) (position_from (has_path path) 0 entries)
        ∙ place in
        Contains-permutation (keys first.ranks) paths path paths-moved
        ((btree_map_contains_key_iff nat_list_cmp_total exact_bytes first.ranks path).0 found)

    pub sorted-order : IsLoadOrder entries paths
    sorted-order = record {
      paths = λ path. (to path, from path);
      ordered = λ i j d lt fits. Less-from_sorted (load_cmp entries) paths i j d
          (sorted_from_all_adjacent (load_total entries) paths [] adjacent) lt fits;
    }
