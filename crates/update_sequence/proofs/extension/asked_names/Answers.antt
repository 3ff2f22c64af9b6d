use Rattle.std.proofs.Common.{sym, subst, List}
use Rattle.std.specs.List.{Contains}
use Rattle.std.proofs.lemmas.List.Filters.{dedup_is}
use Rattle.std.proofs.lemmas.List.Kept.{Contains-dedup, Contains-from_dedup}
use Rattle.std.proofs.lemmas.List.Sorted.{Contains-permutation, IsPermutation-sym}
use Rattle.chart_model.specs.declared.name.Name.{Name}
use Rattle.update_sequence.proofs.NameLists.{name_eq, name_eq-IsEquivalence, name_eq-same}
use Rattle.update_sequence.proofs.extension.asked_names.Goals as goal

pub returns : goal.returns
returns c =
    let moved = c.sort_unstable.ensures.permutation in
    let is = dedup_is name_eq _ _ c.dedup.ensures.filtered in
    λ name. (
      λ h. subst (λ (l : List Name). Contains l name) c.in_ok-names.ensures
          (Contains-permutation _ _ name (IsPermutation-sym _ _ moved) (Contains-from_dedup name_eq _ name (subst (λ (l : List Name). Contains l name) is h))),
      λ h. subst (λ (l : List Name). Contains l name) (sym is)
          (Contains-dedup name_eq-IsEquivalence name_eq-same _ name (Contains-permutation _ _ name moved (subst (λ (l : List Name). Contains l name) (sym c.in_ok-names.ensures) h))),
    )
