use Rattle.std.proofs.Common.{refl, arith}
use Rattle.std.proofs.lemmas.Result.{err_from_is_err_and}
use Rattle.iso8211_records.proofs.PassedTests.{empty-false, empty-true}
use Rattle.iso8211_records.proofs.Loops.{groups-more, groups-fail, groups-all, groups-none, shorter-rest, before-shorter}
use Rattle.iso8211_records.proofs.values.read_groups.Goals as goal

pub returns-then-is_empty-2-clause-read : goal.returns-then-is_empty-2-clause-read
returns-then-is_empty-2-clause-read c = groups-all _ _ _ _ (empty-true _ c.if-is_empty-2.ensures) refl

pub returns-else-is_empty-2-clause-read : goal.returns-else-is_empty-2-clause-read
returns-else-is_empty-2-clause-read c = groups-none _ _ _ (empty-true _ c.if-is_empty.ensures) (empty-false _ c.if-is_empty-2.ensures)

pub returns-in_err-rest-clause-read : goal.returns-in_err-rest-clause-read
returns-in_err-rest-clause-read c =
    let p = err_from_is_err_and c.from_residual.result c.from_residual.ensures.1 in
    rw (p.1, p.2) (groups-fail _ _ _ _ _ (empty-false _ c.loop-rest-test.ensures) c.in_err-rest.ensures.read c.loop-rest.invariant.read)

pub loop-rest-smaller : goal.loop-rest-smaller
loop-rest-smaller c = shorter-rest _ _ _ (empty-false _ c.if-is_empty.ensures) (before-shorter _ _ _ _ _ c.in_ok-rest.ensures.read)

pub loop-rest-preserved : goal.loop-rest-preserved
loop-rest-preserved c = record {
  read = groups-more _ _ _ _ _ _ (empty-false _ c.if-is_empty.ensures) (empty-false _ c.loop-rest-test.ensures) c.in_ok-rest.ensures.read c.loop-rest.invariant.read;
  grown = let more = c.in_ok-rest.ensures.grown in let so_far = c.loop-rest.invariant.grown in omega arith;
}

pub returns-clause-read : goal.returns-clause-read
returns-clause-read c = groups-all _ _ _ _ (empty-true _ c.loop-rest-test.ensures) c.loop-rest.invariant.read
