use Rattle.std.proofs.Common.{arith}
use Rattle.spatial_grid.proofs.Telling.{told_none_yet, told_next, told_all}
use Rattle.spatial_grid.proofs.candidates.push_entries.Goals as goal

pub loop-entry-init : goal.loop-entry-init
loop-entry-init c = (told_none_yet c.args.boxes.now c.args.area c.args.entries.now c.args.names.now.items, omega arith)

pub loop-entry-preserved : goal.loop-entry-preserved
loop-entry-preserved c = (
  told_next c.args.boxes.now c.args.area c.args.entries.now c.loop-entry.entry-index _ c.args.names.now.items c.loop-entry.names.items _ c.loop-entry-test.true c.loop-entry.invariant.0
      c.in_ok-push_at.ensures.told,
  omega (arith, c.loop-entry.invariant.1, c.in_ok-push_at.ensures.no_more),
)

pub returns-clause-told : goal.returns-clause-told
returns-clause-told c =
    told_all c.args.boxes.now c.args.area c.args.entries.now c.loop-entry.entry-index c.args.names.now.items c.loop-entry.names.items (omega (arith, c.loop-entry-test.false)) c.loop-entry.invariant.0

pub returns-clause-no_more : goal.returns-clause-no_more
returns-clause-no_more c = omega (arith, c.loop-entry.invariant.1)
