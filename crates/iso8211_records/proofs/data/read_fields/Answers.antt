use Rattle.std.proofs.Common.{◌∙◌}
use Rattle.std.proofs.lemmas.Result.{err_from_is_err_and}
use Rattle.iso8211_records.proofs.FieldsLoop.{fields-more, fields-fail, fields-all, taken-more, taken-all}
use Rattle.iso8211_records.proofs.data.read_fields.Goals as goal

pub returns-in_err-read_field-clause-read : goal.returns-in_err-read_field-clause-read
returns-in_err-read_field-clause-read c =
    let p = err_from_is_err_and c.from_residual.result c.from_residual.ensures.1 in
    rw (p.1, p.2, ← c.len-number.ensures.count) (fields-fail _ _ _ _ _ _ _ _ _ _ c.loop-entry-test.true (rw c.field_in-field.ensures.named at c.in_err-read_field.ensures.read) c.loop-entry.invariant.read)

pub loop-entry-preserved : goal.loop-entry-preserved
loop-entry-preserved c = record {
  records = c.in_ok-end_field.ensures.records ∙ c.in_ok-read_field.ensures.records ∙ c.loop-entry.invariant.records;
  values = c.in_ok-end_field.ensures.values;
  read = rw (c.in_ok-end_field.ensures.begun, c.in_ok-read_field.ensures.begun) (fields-more _ _ _ _ _ _ _ _ _ _ c.loop-entry-test.true (rw c.field_in-field.ensures.named at c.in_ok-read_field.ensures.read) c.loop-entry.invariant.read);
  taken = taken-more _ _ _ _ _ _ _ c.loop-entry-test.true c.loop-entry.invariant.taken (rw c.field_in-field.ensures.whole at c.in_ok-read_field.ensures.taken);
}

pub returns-clause-read : goal.returns-clause-read
returns-clause-read c = rw (← c.len-number.ensures.count) (fields-all _ _ _ _ _ _ _ _ _ c.loop-entry-test.false c.loop-entry.invariant.read)

pub returns-clause-taken : goal.returns-clause-taken
returns-clause-taken c = taken-all _ _ _ _ _ c.loop-entry-test.false c.loop-entry.invariant.taken
