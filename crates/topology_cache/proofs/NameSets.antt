-- Names in a row that rise, as a set.
use Rattle.std.proofs.Common.{◌≡◌, ℕ, ◌<◌, ◌≤◌, List, [], ◌∷◌, length, map, refl, sym, ap, ◌∙◌, subst}
use Rattle.std.specs.Prelude.{Result, Ok, Err, OnOk, OnErr}
use Rattle.std.specs.declared.cmp.Ordering.TheVariants.{Less, Equal, Greater}
use Rattle.std.specs.Ordering.{ordering_index}
use Rattle.std.specs.List.{HoldsAt, insert, remove}
use Rattle.std.specs.List.Sorted.{IsNonDecreasingBy, IsPartitionPoint}
use Rattle.std.specs.FinMap as finite
use Rattle.std.proofs.lemmas.List.{length-map}
use Rattle.chart_model.specs.declared.name.Name.{Name}
use Rattle.chart_model.specs.Names.{name_cmp}
use Rattle.chart_model.proofs.Names.{name_cmp-total, name_cmp-IsAntisymmetric}
use Rattle.chart_model.proofs.Maps.{insert-same}
use Rattle.chart_model.proofs.Trees.{entries-empty}
use Rattle.chart_model.proofs.Blocks as block
use Rattle.topology_cache.specs.Users.{Names}
use Rattle.topology_cache.specs.Sets.{marked_names, AreRising, set_of}

pub names-marked : (names : List Name) → map (λ (e : Name × Unit {0}). e.0) (marked_names names) ≡ names
names-marked [] = refl
names-marked (name ∷ names) = ap (λ (l : List Name). name ∷ l) (names-marked names)

pub keys-set : (names : List Name) → AreRising names → finite.keys (set_of names) ≡ names
keys-set names rising = ap (map (λ (e : Name × Unit {0}). e.0))
    (finite.entries-from_sorted name_cmp (marked_names names) rising) ∙ names-marked names

pub keys-empty : finite.keys (finite.empty {X = Unit {0}} {R = name_cmp}) ≡ []
keys-empty = ap (map (λ (e : Name × Unit {0}). e.0)) (entries-empty name_cmp (Unit {0}))

pub len-set : (names : List Name) → AreRising names → finite.len (set_of names) ≡ length names
len-set names rising =
    finite.len-entries (set_of names)
    ∙ ap length (finite.entries-from_sorted name_cmp (marked_names names) rising)
    ∙ length-map names (λ (name : Name). (name, tt))

module _ (names : List Name) (name : Name) (rising : AreRising names) where
  pub searchable : IsNonDecreasingBy (λ other. ordering_index (name_cmp other name)) names
  searchable = block.searchable name_cmp-total (λ (n : Name). n) (λ (n : Name). tt) names name rising

  pub put-new : (i : ℕ) → i ≤ length names
      → IsPartitionPoint (λ other. name_cmp other name ≡ Less) (λ other. name_cmp other name ≡ Greater) names i
      → (set_of (insert names i name) ≡ finite.insert (set_of names) name tt) × AreRising (insert names i name)
  put-new i fits parted = block.put-absent name_cmp-total (λ (n : Name). n) (λ (n : Name). tt)
      name_cmp-IsAntisymmetric names name rising i name refl fits parted

  pub put-again : (i : ℕ) → i < length names → HoldsAt (λ other. name_cmp other name ≡ Equal) names i
      → set_of names ≡ finite.insert (set_of names) name tt
  put-again i fits at =
      sym (insert-same name_cmp-total name_cmp-IsAntisymmetric (set_of names) name tt
      (block.value-present name_cmp-total (λ (n : Name). n) (λ (n : Name). tt) name_cmp-IsAntisymmetric names name
      rising i name fits at))

  pub take-out : (i : ℕ) → i < length names → HoldsAt (λ other. name_cmp other name ≡ Equal) names i
      → (set_of (remove names i) ≡ finite.remove (set_of names) name) × AreRising (remove names i)
  take-out i fits at = block.remove-present name_cmp-total (λ (n : Name). n) (λ (n : Name). tt)
      name_cmp-IsAntisymmetric names name rising i fits at

  pub none-there : (i : ℕ) → i ≤ length names
      → IsPartitionPoint (λ other. name_cmp other name ≡ Less) (λ other. name_cmp other name ≡ Greater) names i
      → set_of names ≡ finite.remove (set_of names) name
  none-there i fits parted = block.remove-missing name_cmp-total (λ (n : Name). n) (λ (n : Name). tt)
      name_cmp-IsAntisymmetric names name rising i fits parted

-- a name that was put into its place, or for which there was no memory
pub rising-put : {E : Type 0} (r : Result (Unit {0}) E) (old new : List Name) (name : Name) (i : ℕ) → AreRising old
    → i ≤ length old
    → IsPartitionPoint (λ other. name_cmp other name ≡ Less) (λ other. name_cmp other name ≡ Greater) old i
    → OnOk r (new ≡ insert old i name) → OnErr r (new ≡ old) → AreRising new
rising-put (Ok u) old new name i rising fits parted put kept = subst AreRising (sym put)
    (put-new old name rising i fits parted).1
rising-put (Err e) old new name i rising fits parted put kept = subst AreRising (sym kept) rising

pub set-put : {E : Type 0} (r : Result (Unit {0}) E) (old new : List Name) (s : Names) (name : Name) (i : ℕ)
    → AreRising old → set_of old ≡ s → i ≤ length old
    → IsPartitionPoint (λ other. name_cmp other name ≡ Less) (λ other. name_cmp other name ≡ Greater) old i
    → OnOk r (new ≡ insert old i name) → OnOk r (set_of new ≡ finite.insert s name tt)
set-put (Ok u) old new s name i rising seen fits parted put =
    ap set_of put ∙ (put-new old name rising i fits parted).0 ∙ ap (λ m. finite.insert m name tt) seen
set-put (Err e) old new s name i rising seen fits parted put = tt
