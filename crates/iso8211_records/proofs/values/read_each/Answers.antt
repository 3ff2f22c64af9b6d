use Rattle.std.proofs.lemmas.Result.{err_from_is_err_and}
use Rattle.iso8211_records.proofs.Loops.{values-more, values-fail, values-all, longer}
use Rattle.iso8211_records.proofs.values.read_each.Goals as goal

pub returns-in_err-value-clause-read : goal.returns-in_err-value-clause-read
returns-in_err-value-clause-read c =
    let p = err_from_is_err_and c.from_residual.result c.from_residual.ensures.1 in
    rw (p.1, p.2) (values-fail _ _ _ _ _ _ _ c.loop-format-test.true c.in_err-value.ensures c.loop-format.invariant.read)

pub loop-format-preserved : goal.loop-format-preserved
loop-format-preserved c = record {
  read = rw c.in_ok-push.ensures.items (values-more _ _ _ _ _ _ _ _ c.loop-format-test.true c.in_ok-value.ensures c.loop-format.invariant.read);
  grown = rw c.in_ok-push.ensures.items (longer _ _ _ c.loop-format.invariant.grown);
}

pub returns-clause-read : goal.returns-clause-read
returns-clause-read c = values-all _ _ _ _ _ c.loop-format-test.false c.loop-format.invariant.read
