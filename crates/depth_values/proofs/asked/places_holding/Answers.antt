use Rattle.std.proofs.Common.{eqb, List, sym, subst}
use Rattle.std.specs.List.Sorted.{IsStrictlyIncreasing}
use Rattle.std.proofs.lemmas.List.Filters.{dedup_is}
use Rattle.std.proofs.lemmas.Map.Keys.{IsStrictlyIncreasing-dedup}
use Rattle.depth_values.specs.DepthArea.{ExtentValue}
use Rattle.depth_values.specs.Groups.{StandsIn}
use Rattle.depth_values.specs.Asked.{AreAsked}
use Rattle.depth_values.proofs.Asking.{held_all}
use Rattle.depth_values.proofs.asked.places_holding.Goals as goal

pub returns-clause-held : goal.returns-clause-held
returns-clause-held c =
    let groups = c.groups.result.now in
    let asked =
    subst (λ (l : List ExtentValue). AreAsked c.args.points.now l (StandsIn groups) c.new-held.result.items c.push_groups.new.held.items) c.as_slice.ensures c.in_ok-push_groups.ensures in
    held_all c.args.points.now c.extents-extents.result.now c.args.areas.now c.extents-extents.ensures groups c.new-held.result.items c.push_groups.new.held.items c.sort.new.self.items c.dedup.new.self.items
    c.new-held.ensures.items c.groups.ensures asked c.sort.ensures.permutation (dedup_is eqb _ _ c.dedup.ensures.filtered)

pub returns-clause-ordered : goal.returns-clause-ordered
returns-clause-ordered c =
    subst IsStrictlyIncreasing (sym (dedup_is eqb _ _ c.dedup.ensures.filtered)) (IsStrictlyIncreasing-dedup c.sort.new.self.items c.in_ok-sort.ensures.sorted)
