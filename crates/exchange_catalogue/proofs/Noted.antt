-- Cell files that are noted entry by entry, each by the first entry with its path.
use Rattle.std.proofs.Common.{◌≡◌, ℕ, ◌+◌, ◌<◌, ◌≤◌, Bool, true, false, cond, T, List, [], ◌∷◌, length, get_or, drop}
use Rattle.std.proofs.Common.{drop-cons, add-one, Option, Some, None, Result, Ok, Err, refl, sym, ap, ◌∙◌, subst, arith}
use Rattle.std.specs.Prelude.{is_some, option_map, map}
use Rattle.std.specs.List.{position_from}
use Rattle.std.specs.Option.{option_or, option_map_or}
use Rattle.std.specs.Ordering.{is_eq, eq_by_cmp}
use Rattle.std.specs.Str.{bytes_eq}
use Rattle.std.specs.Cmp.Lexicographic.{nat_list_cmp_total, texts_ties}
use Rattle.std.proofs.lemmas.Cmp.{eq_by_cmp_equiv}
use Rattle.std.proofs.lemmas.Bool.{true≢false}
use Rattle.std.proofs.lemmas.Map.Lookups.{exact_bytes}
use Rattle.std.proofs.Math.ListN.{drop_of_length-le}
use Rattle.common_lemmas.proofs.Choices.{map_some}
use Rattle.chart_model.specs.Answers.{first_of, unless}
use Rattle.chart_model.specs.Memory.{Fails}
use Rattle.chart_model.specs.Keys.{key_cmp}
use Rattle.chart_model.proofs.Maps.{tied}
use Rattle.exchange_catalogue.specs.Paths.{cell_path_of}
use Rattle.exchange_catalogue.specs.Orders.{has_path, path_fault, paths_fault}
use Rattle.exchange_catalogue.specs.Firsts.{rank_at, file_at, first_rank, paths_check}
use Rattle.exchange_catalogue.specs.declared.cell_file.CellFile.{CellFile}
use Rattle.exchange_catalogue.specs.declared.cell_file.Rank.{Rank}
use Rattle.exchange_catalogue.specs.declared.entry.Entry.{Entry}
use Rattle.exchange_catalogue.specs.declared.fault.OrderFault.{OrderFault}
use Rattle.exchange_catalogue.specs.declared.fault.OrderFault.TheVariants.{NoMemory}

-- ---- paths

pub same_path : (a b : List ℕ) → bytes_eq a b ≡ true → a ≡ b
same_path a b e = exact_bytes a b (tied (key_cmp a b) (sym (texts_ties a b) ∙ e))

-- whether two paths tie, from either side
turned : (a b : List ℕ) → is_eq (key_cmp a b) ≡ bytes_eq b a
turned a b = (eq_by_cmp_equiv nat_list_cmp_total).symm a b ∙ sym (texts_ties b a)

-- ---- one entry

abbrev rank_if : Bool → List ℕ → ℕ → Option Rank
rank_if b path place = option_map (rank_at path) (cond b (Some place) None)

-- an entry that lists no cell file
pub noted-none : (old : List ℕ → Option Rank) (place : ℕ) (entry : Entry) → cell_path_of entry ≡ None
    → (path : List ℕ) → old path ≡ option_or (old path) (first_rank place (entry ∷ []) path)
noted-none old place entry e path =
    by (old path) ∙ ap (λ (found : Option (List ℕ)). option_or (old path)
    (rank_if (option_map_or (bytes_eq path) found false) path place)) (sym e)
  where
    by : (o : Option Rank) → o ≡ option_or o None
    by None = refl
    by (Some rank) = refl

-- an entry that lists one
pub listed-as : (place : ℕ) (entry : Entry) (file : CellFile)
    → option_map (file_at place) (cell_path_of entry) ≡ Some file
    → (cell_path_of entry ≡ Some file.path) × (file.rank ≡ rank_at file.path place)
listed-as place entry file e =
    let found = map_some (file_at place) (cell_path_of entry) file e in
    let paths : found.0 ≡ file.path = ap (λ (f : CellFile). f.path) found.2 in (
      found.1 ∙ ap (λ (p : List ℕ). Some p) paths,
      sym (ap (λ (f : CellFile). f.rank) found.2) ∙ ap (λ (p : List ℕ). rank_at p place) paths,
    )

pub absent : {A : Type 0} (o : Option A) → is_some o ≡ false → o ≡ None
absent None e = refl
absent (Some x) e = absurd (true≢false e)

module _ (old new : List ℕ → Option Rank) (place : ℕ) (entry : Entry) (file : CellFile) (path : List ℕ)
    (lists : cell_path_of entry ≡ Some file.path) (ranked : file.rank ≡ rank_at file.path place) where
  rank-here : first_rank place (entry ∷ []) path ≡ rank_if (bytes_eq path file.path) path place
  rank-here = ap (λ (found : Option (List ℕ)). rank_if (option_map_or (bytes_eq path) found false) path place) lists

  -- the path is a new one
  pub noted-new : new path ≡ cond (is_eq (key_cmp file.path path)) (Some file.rank) (old path) → old file.path ≡ None
      → new path ≡ option_or (old path) (first_rank place (entry ∷ []) path)
  noted-new updated missed =
      updated ∙ ap (λ (b : Bool). cond b (Some file.rank) (old path)) (turned file.path path)
      ∙ by (bytes_eq path file.path) refl ∙ ap (option_or (old path)) (sym rank-here)
    where
      kept : (o : Option Rank) → o ≡ option_or o None
      kept None = refl
      kept (Some rank) = refl

      by : (b : Bool) → bytes_eq path file.path ≡ b
          → cond b (Some file.rank) (old path) ≡ option_or (old path) (rank_if b path place)
      by true e =
          let same = same_path path file.path e in
          let missing : old path ≡ None = ap old same ∙ missed in
          ap (λ (r : Rank). Some r) (ranked ∙ ap (λ (p : List ℕ). rank_at p place) (sym same))
          ∙ sym (ap (λ (o : Option Rank). option_or o (Some (rank_at path place))) missing)
      by false e = kept (old path)

-- ---- entry by entry

or-or : (a b c : Option Rank) → option_or (option_or a b) c ≡ option_or a (option_or b c)
or-or None b c = refl
or-or (Some x) b c = refl

rank-next : (entry : Entry) (rest : List Entry) (place : ℕ) (path : List ℕ)
    → first_rank place (entry ∷ rest) path ≡ option_or (first_rank place (entry ∷ []) path)
    (first_rank (place + 1) rest path)
rank-next entry rest place path = by (has_path path entry)
  where
    by : (b : Bool)
        → option_map (rank_at path) (cond b (Some place) (position_from (has_path path) (place + 1) rest))
        ≡ option_or (rank_if b path place) (first_rank (place + 1) rest path)
    by true = refl
    by false = refl

behind_it : (entries : List Entry) (place : ℕ) (entry : Entry) → place < length entries
    → entry ≡ get_or entries place entry
    → drop place entries ≡ entry ∷ drop (place + 1) entries
behind_it entries place entry here at = drop-cons entries place entry here
    ∙ (λ i. sym at i ∷ drop (sym (add-one place) i) entries)

-- what is noted, or else the rank of the first entry of those that are left
abbrev pub AreNoted : (List ℕ → Option Rank) → ℕ → List Entry → Type 0
AreNoted found place entries =
    (path : List ℕ) → option_or (found path) (first_rank place (drop place entries) path) ≡ first_rank 0 entries path

pub noted-first : (found : List ℕ → Option Rank) (entries : List Entry) → ((path : List ℕ) → found path ≡ None)
    → AreNoted found 0 entries
noted-first found entries empty path = ap (λ (o : Option Rank). option_or o (first_rank 0 entries path)) (empty path)

pub noted-next : (old new : List ℕ → Option Rank) (entries : List Entry) (place : ℕ) (entry : Entry)
    → place < length entries → entry ≡ get_or entries place entry
    → ((path : List ℕ) → new path ≡ option_or (old path) (first_rank place (entry ∷ []) path))
    → AreNoted old place entries → AreNoted new (place + 1) entries
noted-next old new entries place entry here at one noted path =
    ap (λ (o : Option Rank). option_or o (first_rank (place + 1) (drop (place + 1) entries) path)) (one path)
    ∙ or-or (old path) _ _ ∙ ap (option_or (old path)) (sym (rank-next entry (drop (place + 1) entries) place path))
    ∙ ap (λ (l : List Entry). option_or (old path) (first_rank place l path))
    (sym (behind_it entries place entry here at)) ∙ noted path

pub noted-all : (found : List ℕ → Option Rank) (entries : List Entry) (place : ℕ) → length entries ≤ place
    → AreNoted found place entries
    → (path : List ℕ) → found path ≡ first_rank 0 entries path
noted-all found entries place done noted path =
    by (found path)
    ∙ ap (λ (l : List Entry). option_or (found path) (first_rank place l path))
    (sym (drop_of_length-le entries {i = place} done)) ∙ noted path
  where
    by : (o : Option Rank) → o ≡ option_or o None
    by None = refl
    by (Some rank) = refl

-- ---- their faults

alone-none : (o : Option OrderFault) → ◌≡◌ {A = Result (Unit {0}) OrderFault} (unless (first_of (o ∷ [])) tt) (Ok tt)
    → o ≡ None
alone-none None e = refl
alone-none (Some fault) e = absurd cc

alone-some : (o : Option OrderFault) (fault : OrderFault)
    → ◌≡◌ {A = Result (Unit {0}) OrderFault} (unless (first_of (o ∷ [])) tt) (Err fault)
    → o ≡ Some fault
alone-some None fault e = absurd cc
alone-some (Some other) fault e = cc

-- no entry so far has a bad path
abbrev pub AreFaultless : ℕ → List Entry → Type 0
AreFaultless place entries = paths_fault (drop place entries) ≡ paths_fault entries

pub faultless-next : (entries : List Entry) (place : ℕ) (entry : Entry) → place < length entries
    → entry ≡ get_or entries place entry
    → paths_check (entry ∷ []) ≡ Ok tt → AreFaultless place entries → AreFaultless (place + 1) entries
faultless-next entries place entry here at fine so_far =
    ap (λ (o : Option OrderFault). first_of (o ∷ rest)) (sym (alone-none (path_fault entry) fine))
    ∙ ap paths_fault (sym (behind_it entries place entry here at)) ∙ so_far
  where
    rest : List (Option OrderFault)
    rest = map path_fault (drop (place + 1) entries)

pub faultless-all : (entries : List Entry) (place : ℕ) → length entries ≤ place → AreFaultless place entries
    → paths_check entries ≡ Ok tt
faultless-all entries place done so_far =
    ap (λ (o : Option OrderFault). unless o tt)
    (sym so_far ∙ ap paths_fault (drop_of_length-le entries {i = place} done))

first_fault : (entries : List Entry) (place : ℕ) (entry : Entry) (fault : OrderFault) → place < length entries
    → entry ≡ get_or entries place entry
    → paths_check (entry ∷ []) ≡ Err fault → AreFaultless place entries → paths_check entries ≡ Err fault
first_fault entries place entry fault here at e so_far =
    ap (λ (o : Option OrderFault). unless o tt) (sym so_far ∙ ap paths_fault (behind_it entries place entry here at))
    ∙ ap (λ (o : Option OrderFault). unless (first_of (o ∷ map path_fault (drop (place + 1) entries))) tt)
    (alone-some (path_fault entry) fault e)

pub fault-here : (entries : List Entry) (place : ℕ) (entry : Entry) (fault : OrderFault) → place < length entries
    → entry ≡ get_or entries place entry
    → AreFaultless place entries → Fails NoMemory fault (paths_check (entry ∷ []))
    → Fails NoMemory fault (paths_check entries)
fault-here entries place entry fault here at so_far h =
    λ differs. first_fault entries place entry fault here at (h differs) so_far
