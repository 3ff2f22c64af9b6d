use Rattle.std.proofs.Common.{List, refl, subst}
use Rattle.std.specs.List.{All}
use Rattle.chart_model.specs.declared.name.Name.{Name}
use Rattle.spatial_grid.specs.Kept.{KeepsBox}
use Rattle.spatial_grid.proofs.KeptGrids.{grid_kept}
use Rattle.spatial_grid.proofs.grid.Grid.absorb.Goals as goal

pub returns-else-not-keeps_boxes-clause-grid : goal.returns-else-not-keeps_boxes-clause-grid
returns-else-not-keeps_boxes-clause-grid c =
    let old = c.args.old.now in
    let new = c.args.new.now in
    let kept =
    subst (λ (l : List Name). All (KeepsBox old new) l) c.as_slice.ensures (c.if-not-keeps_boxes.ensures.0 refl) in
    grid_kept old new c.args.changed.now c.requires.changed kept c.args.self.now c.requires.grid
