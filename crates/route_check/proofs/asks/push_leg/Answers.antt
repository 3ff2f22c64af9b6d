use Rattle.std.proofs.Common.{List, ◌++◌, map, ap, ◌∙◌, subst}
use Rattle.chart_model.specs.declared.name.Name.{Name}
use Rattle.plane_bounds.specs.declared.bounds.Bounds.{Bounds}
use Rattle.spatial_grid.specs.Candidates.{AreCandidates}
use Rattle.route_check.specs.Ask.{ask_for}
use Rattle.route_check.proofs.Asking.{leg_gains}
use Rattle.route_check.proofs.asks.push_leg.Goals as goal

pub returns : goal.returns
returns c =
    let names = c.find_candidates.new.names.items in
    let asks = c.args.asks.now.items in
    let candidates = subst (λ (area : Bounds). AreCandidates c.args.grid.now area names) c.reach_of.ensures c.in_ok-looked_at.ensures.names in
    leg_gains c.args.grid.now c.args.leg c.args.before names asks c.push_names.new.asks.items candidates
    (c.in_ok-push_names.ensures ∙ ap (λ (l : List Name). asks ++ map (ask_for c.args.before) l) c.as_slice.ensures.value)
