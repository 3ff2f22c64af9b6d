use Rattle.std.proofs.Common.{◌+◌, length, ap, Err, ◌∙◌, arith}
use Rattle.std.proofs.lemmas.Result.{err_from_is_err_and}
use Rattle.iso8211_records.specs.declared.fault.FileFault.{FileFault}
use Rattle.iso8211_records.proofs.PassedTests.{empty-false, empty-true}
use Rattle.iso8211_records.proofs.Records.{records-more, records-fail, records-all, come_to-failed, come_to-some, counted-more, counted-all}
use Rattle.iso8211_records.proofs.file.read_data_records.Goals as goal

pub returns-in_err-length-clause-read : goal.returns-in_err-length-clause-read
returns-in_err-length-clause-read g c =
    let p = err_from_is_err_and c.from_residual.result c.from_residual.ensures.1 in
    rw (p.1, p.2) (records-fail _ _ _ _ _ _ _ _ (empty-false _ c.loop-rest-test.ensures) (c.in_err-length.ensures.read) c.loop-rest.invariant.read)

pub returns-clause-read : goal.returns-clause-read
returns-clause-read g c = rw c.in_ok-finish.ensures (records-all _ _ _ _ _ _ _ (empty-true _ c.loop-rest-test.ensures) c.loop-rest.invariant.read)

pub returns-in_err-length-clause-come_to : goal.returns-in_err-length-clause-come_to
returns-in_err-length-clause-come_to g c =
    let p = err_from_is_err_and c.from_residual.result c.from_residual.ensures.1 in
    λ other.
    let last = come_to-failed _ _ _ _ _ _ (empty-false _ c.loop-rest-test.ensures) (c.in_err-length.ensures.read)
    (λ out_of_memory. other (p.1 ∙ ap (λ (fault : FileFault). Err fault) (p.2 ∙ out_of_memory))) in
    let so_far = c.loop-rest.invariant.steps in
    omega arith

pub returns-in_err-length-clause-at_most : goal.returns-in_err-length-clause-at_most
returns-in_err-length-clause-at_most g c =
    let some = come_to-some c.args.wanted.now.tags c.args.wanted.now.descriptors (length c.loop-rest.draft.records + 1) c.loop-rest.place c.loop-rest.rest.now (empty-false _ c.loop-rest-test.ensures) in
    let so_far = c.loop-rest.invariant.steps in
    omega arith

pub returns-in_err-end_record-clause-at_most : goal.returns-in_err-end_record-clause-at_most
returns-in_err-end_record-clause-at_most g c =
    let some = come_to-some c.args.wanted.now.tags c.args.wanted.now.descriptors (length c.loop-rest.draft.records + 1) c.loop-rest.place c.loop-rest.rest.now (empty-false _ c.loop-rest-test.ensures) in
    let so_far = c.loop-rest.invariant.steps in
    omega arith

pub loop-rest-preserved : goal.loop-rest-preserved
loop-rest-preserved g c =
    let one = c.in_ok-length.ensures.read in
    let step = counted-more _ _ _ _ _ _ _ (empty-false _ c.loop-rest-test.ensures) one in
    let so_far = c.loop-rest.invariant.steps in
    record {
      ended = (c.in_ok-end_record.ensures.begun, c.in_ok-end_record.ensures.values ∙ c.in_ok-length.ensures.values);
      place = let within = c.in_ok-length.ensures.within in let so_far_place = c.loop-rest.invariant.place in let len = c.split_at.ensures.back_len in omega arith;
      read = rw (c.in_ok-end_record.ensures.records, c.in_ok-length.ensures.records, c.split_at.ensures.back) (records-more _ _ _ _ _ _ _ _ (empty-false _ c.loop-rest-test.ensures) one c.loop-rest.invariant.read);
      steps = rw (c.in_ok-end_record.ensures.records, c.in_ok-length.ensures.records, c.split_at.ensures.back) (omega arith);
    }

pub returns-clause-come_to : goal.returns-clause-come_to
returns-clause-come_to g c = λ _. counted-all _ _ _ _ _ _ _ (empty-true _ c.loop-rest-test.ensures) c.loop-rest.invariant.steps
