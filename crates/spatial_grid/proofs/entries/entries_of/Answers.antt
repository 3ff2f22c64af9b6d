use Rattle.std.proofs.Common.{arith}
use Rattle.std.proofs.lemmas.Option.{slice_get_within}
use Rattle.spatial_grid.proofs.Standing.{entered_kept, entered_next}
use Rattle.spatial_grid.proofs.entries.entries_of.Goals as goal

pub loop-place-preserved : goal.loop-place-preserved
loop-place-preserved c =
    entered_next c.args.boxes.now c.args.rows c.args.columns c.loop-place.place c.loop-place.entries.items c.push_at.new.entries.items c.in_ok-push_at.ensures.kept c.loop-place.invariant
    c.in_ok-push_at.ensures.entered

pub returns-clause-entered : goal.returns-clause-entered
returns-clause-entered c = λ place boxed e.
    entered_kept place _ _ _ _ c.loop-place.entries.items c.in_ok-entries.entries.items c.in_ok-entries.ensures.kept
    (c.loop-place.invariant place (omega (arith, c.loop-place-test.false, slice_get_within c.args.boxes.now place boxed e)) boxed e)
