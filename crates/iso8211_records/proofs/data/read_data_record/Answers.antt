use Rattle.std.proofs.lemmas.Result.{err_from_is_err_and}
use Rattle.iso8211_records.proofs.ListedTags.{data_record-read, data_record-fails, data_record-undescribed}
use Rattle.iso8211_records.proofs.data.read_data_record.Goals as goal

pub returns-in_err-check_described-clause-read : goal.returns-in_err-check_described-clause-read
returns-in_err-check_described-clause-read c =
    let p = err_from_is_err_and c.from_residual-in_err-check_described.result c.from_residual-in_err-check_described.ensures.1 in
    rw (p.1, p.2) (data_record-undescribed _ _ _ _ _ _ _ (rw c.tags.ensures at c.in_ok-leader.ensures.read)
    (rw c.as_slice-entries.ensures.value at c.in_err-check_described.ensures))

pub returns-in_err-read_fields-clause-read : goal.returns-in_err-read_fields-clause-read
returns-in_err-read_fields-clause-read c =
    let p = err_from_is_err_and c.from_residual-in_err-read_fields.result c.from_residual-in_err-read_fields.ensures.1 in
    rw (p.1, p.2) (data_record-fails _ _ _ _ _ _ _ (rw c.tags.ensures at c.in_ok-leader.ensures.read)
    (rw c.descriptors.ensures.same at c.descriptors.ensures.listed)
    (rw c.as_slice-entries.ensures.value at c.in_ok-check_described.ensures)
    (rw (c.descriptors.ensures.same, c.as_slice-entries.ensures.value) at c.in_err-read_fields.ensures.read))

pub returns-clause-read : goal.returns-clause-read
returns-clause-read c =
    data_record-read _ _ _ _ _ _ _ (rw c.tags.ensures at c.in_ok-leader.ensures.read)
    (rw c.descriptors.ensures.same at c.descriptors.ensures.listed)
    (rw c.as_slice-entries.ensures.value at c.in_ok-check_described.ensures)
    (rw (c.descriptors.ensures.same, c.as_slice-entries.ensures.value) at c.in_ok-read_fields.ensures.read)
