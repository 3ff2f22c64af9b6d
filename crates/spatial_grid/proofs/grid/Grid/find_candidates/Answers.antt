use Rattle.std.proofs.Common.{List, sym, subst, arith}
use Rattle.std.specs.Prelude.{◌↔◌}
use Rattle.std.specs.List.{Contains}
use Rattle.std.specs.FinMap as finite
use Rattle.chart_model.specs.declared.name.Name.{Name}
use Rattle.chart_model.specs.Names.{name_cmp}
use Rattle.plane_bounds.specs.declared.bounds.Bounds.{Bounds}
use Rattle.spatial_grid.specs.declared.entry.Entry.{Entry}
use Rattle.spatial_grid.specs.Candidates.{AreCandidates}
use Rattle.spatial_grid.specs.Buckets.{AreEntered}
use Rattle.spatial_grid.specs.Met.{IsMet}
use Rattle.spatial_grid.proofs.Asked.{candidates_of}
use Rattle.spatial_grid.proofs.grid.Grid.find_candidates.Goals as goal

pub find_met-requires-clause-entered : goal.find_met-requires-clause-entered
find_met-requires-clause-entered c =
    let inside = c.self.inside in
    subst (λ (l : List (Name × Bounds)). AreEntered l inside.rows inside.columns c.as_slice-entries.result.now) (sym c.as_slice-boxes.ensures.value)
    (subst (λ (l : List Entry). AreEntered inside.boxes.items inside.rows inside.columns l) (sym c.as_slice-entries.ensures.value) c.self.invariant.entered)

pub returns-clause-names : goal.returns-clause-names
returns-clause-names c =
    let boxes = c.self.inside.boxes.items in
    let area = c.args.area.now in
    let met = c.find_met.new.names.items in
    let names = c.keep_each_once.new.names.items in
    let told =
    subst (λ (l : List (Name × Bounds)). (name : Name) → Contains met name ↔ IsMet l area name) c.as_slice-boxes.ensures.value c.in_ok-looked_at.ensures.met in
    let made =
    candidates_of boxes c.self.invariant.sorted area met names told c.keep_each_once.ensures.same c.keep_each_once.ensures.ordered in
    subst (λ (grid : finite.FinMap name_cmp Bounds). AreCandidates grid area names) c.self.view_is made

pub returns-clause-counted : goal.returns-clause-counted
returns-clause-counted c = omega (arith, c.in_ok-looked_at.ensures.no_more, c.keep_each_once.ensures.no_more)
