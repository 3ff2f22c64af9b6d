use Rattle.std.proofs.Common.{length, arith}
use Rattle.spatial_grid.proofs.Counts.{vec_small, no_more_added}
use Rattle.spatial_grid.proofs.Looking.{counted_none, counted_row, counted_rows}
use Rattle.spatial_grid.proofs.Telling.{told_no_row, told_row, told_rows}
use Rattle.spatial_grid.proofs.candidates.push_rows.Goals as goal

pub loop-row-init : goal.loop-row-init
loop-row-init c = (
  told_no_row c.args.boxes.now c.args.area c.args.entries.now c.args.rows.first c.args.columns.first c.args.columns.last c.args.names.now.items,
  counted_none c.args.entries.now c.args.rows.first c.args.rows.last c.args.columns.first c.args.columns.last,
  omega arith,
)

pub loop-row-preserved : goal.loop-row-preserved
loop-row-preserved c = (
  told_row c.args.boxes.now c.args.area c.args.entries.now c.args.rows.first c.loop-row.row c.args.columns.first c.args.columns.last c.args.names.now.items c.loop-row.names.items
      c.push_between.new.names.items c.loop-row.invariant.0 c.in_ok-count.ensures.told,
  counted_row c.args.entries.now c.args.rows.first c.args.rows.last c.args.columns.first c.args.columns.last c.loop-row.row c.loop-row.looked_at _ _ c.args.columns.first_in
      c.args.columns.last_in c.loop-row-test.true c.loop-row.invariant.1 c.in_ok-count.ensures.counted c.saturating_add-looked_at.ensures,
  no_more_added (length c.args.names.now.items) (length c.loop-row.names.items) (length c.push_between.new.names.items) _ _ _ c.saturating_add-looked_at.ensures
      c.loop-row.invariant.2 c.in_ok-count.ensures.no_more (vec_small c.push_between.new.names),
)

pub returns-clause-told : goal.returns-clause-told
returns-clause-told c =
    told_rows c.args.boxes.now c.args.area c.args.entries.now c.args.rows.first c.args.rows.last c.loop-row.row c.args.columns.first c.args.columns.last c.args.names.now.items
    c.loop-row.names.items (omega (arith, c.loop-row-test.false)) c.loop-row.invariant.0

pub returns-clause-counted : goal.returns-clause-counted
returns-clause-counted c =
    counted_rows c.args.entries.now c.args.rows.first c.args.rows.last c.args.columns.first c.args.columns.last c.loop-row.row c.loop-row.looked_at
    (omega (arith, c.loop-row-test.false)) c.loop-row.invariant.1

pub returns-clause-no_more : goal.returns-clause-no_more
returns-clause-no_more c = c.loop-row.invariant.2
