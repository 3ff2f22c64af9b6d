-- A walk over the features of a cell.
use Rattle.std.proofs.Common.{◌≡◌, Bool, true, false, cond, ◌&&◌, ◌||◌, List, [], ◌∷◌, ◌++◌, T, Option, Some, None}
use Rattle.std.proofs.Common.{refl, sym, ap, ◌∙◌, subst, append-nil, append_assoc}
use Rattle.std.specs.declared.cmp.Ordering.TheVariants.{Less}
use Rattle.std.specs.Ordering.{eq_by_cmp, is_eq, ordering_reverse}
use Rattle.std.specs.FinMap as finite
use Rattle.std.specs.FinMap.{find, is_sorted}
use Rattle.std.specs.FinMap.Entries.{below_all, find-append}
use Rattle.chart_model.specs.declared.name.Name.{Name}
use Rattle.chart_model.specs.declared.cell.Feature.{Feature}
use Rattle.chart_model.specs.Cell.{CellValue}
use Rattle.chart_model.specs.Names.{name_cmp}
use Rattle.chart_model.proofs.Names.{name_cmp-total, name_cmp-IsAntisymmetric}
use Rattle.chart_model.proofs.Maps.{tied}
use Rattle.chart_model.proofs.SortedEntries.{first, second, less}
use Rattle.topology_cache.specs.Users.{same_name, points_to_any}
use Rattle.topology_cache.specs.Sets.{pointers_in, pointers_at}
use Rattle.topology_cache.proofs.Same.{ties-same}

-- whether a record is used by the feature with a name
abbrev pub Usage : Type 0
Usage = Name → Name → Bool

-- of the features that were seen, it is told what they use
pub record Walked (cell : CellValue) (used : Usage) (left : List (Name × Feature)) : Type 0 where
  pub seen : List (Name × Feature)
  pub parts : finite.entries cell.features ≡ seen ++ left
  pub kept : (edge name : Name) → used edge name ≡ points_to_any edge (pointers_in (find name_cmp name seen))

-- before the first feature
pub walk-begins : (cell : CellValue) (used : Usage) (all : List (Name × Feature))
    → ((edge name : Name) → used edge name ≡ false) → all ≡ finite.entries cell.features → Walked cell used all
walk-begins cell used all none e = record { seen = []; parts = sym e; kept = none }

below_next : (x : Name) (seen rest : List (Name × Feature)) (next : Name × Feature)
    → T (below_all name_cmp x (seen ++ next ∷ rest)) → name_cmp x next.0 ≡ Less
below_next x [] rest next h = less _ (first _ _ h)
below_next x (entry ∷ seen) rest next h = below_next x seen rest next (second _ _ h)

-- the next feature wasn't seen yet
not_seen : (seen rest : List (Name × Feature)) (next : Name × Feature)
    → T (is_sorted name_cmp (seen ++ next ∷ rest)) → find name_cmp next.0 seen ≡ None
not_seen [] rest next h = refl
not_seen (entry ∷ seen) rest next h =
    ap (λ r. cond (is_eq r) (Some entry.1) (find name_cmp next.0 seen))
    (name_cmp-total.antisymm next.0 entry.0 ∙ ap ordering_reverse (below_next entry.0 seen rest next (first _ _ h)))
    ∙ not_seen seen rest next (second _ _ h)

one_more : (tie p u : Bool) → (tie ≡ true → u ≡ false) → ((p && tie) || u) ≡ cond tie p u
one_more true true u none = refl
one_more true false u none = none refl
one_more false true u none = refl
one_more false false u none = refl

chosen : (tie : Bool) (edge : Name) (feature : Feature) (rest : Option Feature)
    → cond tie (points_to_any edge feature.pointers) (points_to_any edge (pointers_in rest))
    ≡ points_to_any edge (pointers_in (cond tie (Some feature) rest))
chosen true edge feature rest = refl
chosen false edge feature rest = refl

pub walk-goes : (cell : CellValue) (before after : Usage) (name : Name) (feature : Feature)
    (all left : List (Name × Feature))
    → Walked cell before all → all ≡ (name, feature) ∷ left
    → ((edge other : Name) → after edge other ≡ ((points_to_any edge feature.pointers && same_name name other)
    || before edge other))
    → Walked cell after left
walk-goes cell before after name feature all left w next more =
    let sorted : T (is_sorted name_cmp (w.seen ++ (name, feature) ∷ left)) =
    subst (λ (es : List (Name × Feature)). T (is_sorted name_cmp es))
    (w.parts ∙ ap (λ (l : List (Name × Feature)). w.seen ++ l) next) (finite.entries_sorted cell.features) in
    let new : find name_cmp name w.seen ≡ None = not_seen w.seen left (name, feature) sorted in
    record {
      seen = w.seen ++ (name, feature) ∷ [];
      parts = w.parts ∙ ap (λ (l : List (Name × Feature)). w.seen ++ l) next
          ∙ sym (append_assoc w.seen ((name, feature) ∷ []) left);
      kept = λ edge other.
          more edge other
          ∙ ap (λ b. (points_to_any edge feature.pointers && b) || before edge other)
          (sym (ties-same other name))
          ∙ ap (λ b. (points_to_any edge feature.pointers && eq_by_cmp name_cmp other name) || b) (w.kept edge other)
          ∙ one_more (eq_by_cmp name_cmp other name) (points_to_any edge feature.pointers) _
          (λ tie. ap (λ o. points_to_any edge (pointers_in o))
          (ap (λ (n : Name). find name_cmp n w.seen) (name_cmp-IsAntisymmetric other name
          (tied (name_cmp other name) tie)) ∙ new))
          ∙ chosen (eq_by_cmp name_cmp other name) edge feature (find name_cmp other w.seen)
          ∙ ap (λ o. points_to_any edge (pointers_in o)) (sym
          (find-append name_cmp name_cmp-total w.seen name feature other new));
    }

pub walk-ends : (cell : CellValue) (used : Usage) → Walked cell used []
    → (edge name : Name) → used edge name ≡ points_to_any edge (pointers_at cell name)
walk-ends cell used w edge name =
    w.kept edge name
    ∙ ap (λ (es : List (Name × Feature)). points_to_any edge (pointers_in (find name_cmp name es)))
    (sym (append-nil w.seen) ∙ sym w.parts)
    ∙ ap (λ o. points_to_any edge (pointers_in o)) (sym (finite.get-entries cell.features name))
