-- A walk over the cells.
use Rattle.std.proofs.Common.{◌≡◌, Option, rules, subst}
use Rattle.std.specs.FinMap as finite
use Rattle.chart_model.specs.Cell.{CellValue}
use Rattle.spatial_grid.specs.Box.{IsGridOf}
use Rattle.session_core.specs.Kept.{IsRenewed}
use Rattle.session_core.proofs.Keeping.{walk-begins, walk-ends, walk-goes}
use Rattle.chart_picture.proofs.run.grids.grids_of.Goals as goal

pub loop-key-init : goal.loop-key-init
loop-key-init c =
    let all : c.into_iter-key-iterator.result ≡ finite.entries c.args.cells.now = search rules in
    walk-begins IsGridOf c.args.cells.now _ _ c.new-grids.ensures all

pub loop-key-preserved : goal.loop-key-preserved
loop-key-preserved c =
    walk-goes IsGridOf c.args.cells.now c.loop-key.grids c.make_grid.new.grids c.in-Some.key.now c.in-Some.holding.now _ _
    c.loop-key.invariant c.in-Some.ensures.steps
    (subst (λ (o : Option CellValue). IsRenewed IsGridOf c.in-Some.key.now o c.loop-key.grids c.make_grid.new.grids) c.as_ref.ensures.value
    c.in_ok-make_grid.ensures)

pub returns : goal.returns
returns c = walk-ends IsGridOf c.args.cells.now c.loop-key.grids _ c.loop-key.invariant c.in-None.ensures.steps.0
