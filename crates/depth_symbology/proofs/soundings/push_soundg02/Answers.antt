use Rattle.std.proofs.Common.{sym, subst}
use Rattle.std.specs.Prelude.{Option}
use Rattle.chart_model.specs.Cell.{IsCell}
use Rattle.area_rings.specs.declared.shape.Shape.{Shape}
use Rattle.depth_symbology.specs.Soundings.{HasCoords}
use Rattle.depth_symbology.proofs.Coords.{shape_coords}
use Rattle.depth_symbology.proofs.soundings.push_soundg02.Goals as goal

pub push_shape-requires : goal.push_shape-requires
push_shape-requires c =
    subst (λ (o : Option Shape). HasCoords o) (sym c.in_ok-shape.ensures) (shape_coords c.args.cell.now (subst IsCell c.cell.view_is c.cell.invariant) c.args.feature.now)
