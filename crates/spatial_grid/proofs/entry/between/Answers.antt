use Rattle.std.proofs.Common.{sym, arith}
use Rattle.spatial_grid.proofs.Looking.{between_is, none_between}
use Rattle.spatial_grid.proofs.entry.between.Goals as goal

pub returns-then-from-to : goal.returns-then-from-to
returns-then-from-to c =
    sym (between_is c.args.first c.args.last c.args.entries.now c.end_before-from.result c.end_with-to.result c.end_before-from.ensures.parted c.end_with-to.ensures.parted)

pub returns-else-from-to : goal.returns-else-from-to
returns-else-from-to c =
    sym
    (none_between c.args.first c.args.last c.args.entries.now c.end_before-from.result c.end_with-to.result c.end_before-from.ensures.parted c.end_with-to.ensures.parted
    (omega (arith, c.if-from-to.false)))
