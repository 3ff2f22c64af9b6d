use Rattle.std.proofs.Common.{T, List, sym, subst}
use Rattle.std.specs.FinMap as finite
use Rattle.std.specs.FinMap.{is_sorted}
use Rattle.chart_model.specs.declared.name.Name.{Name}
use Rattle.chart_model.specs.Names.{name_cmp}
use Rattle.plane_bounds.specs.declared.bounds.Bounds.{Bounds}
use Rattle.spatial_grid.specs.Box.{IsGridOf}
use Rattle.spatial_grid.specs.Buckets.{AreEntered}
use Rattle.spatial_grid.proofs.Grids.{boxes_sorted, boxes_are_grid}
use Rattle.spatial_grid.proofs.grid.grid_of.Goals as goal

pub invariant_of-result : goal.invariant_of-result
invariant_of-result c = record {
  sorted = subst (λ (l : List (Name × Bounds)). T (is_sorted name_cmp l)) (sym c.in_ok-boxes.ensures) (boxes_sorted c.args.cell.now);
  ordered = c.in_ok-entries.ensures.ordered;
  entered =
      subst (λ (l : List (Name × Bounds)). AreEntered l c.over-rows.result c.over-columns.result c.in_ok-entries.entries.items) c.as_slice-3.ensures.value c.in_ok-entries.ensures.entered;
}

pub returns : goal.returns
returns c =
    subst (λ (l : List (Name × Bounds)). IsGridOf c.args.cell.now (finite.from_sorted {R = name_cmp} l)) (sym c.in_ok-boxes.ensures) (boxes_are_grid c.args.cell.now)
