use Rattle.std.proofs.Common.{Err, refl, sym, ◌∙◌, ap}
use Rattle.std.proofs.lemmas.Result.{err_from_is_err_and}
use Rattle.update_sequence.specs.Reading.{data_set_in, fault_of_file}
use Rattle.update_sequence.proofs.Failing.{file_fails, records_fail, err_is}
use Rattle.update_sequence.proofs.read.read_data_set.Goals as goal

pub returns-in_err-file-clause-exact : goal.returns-in_err-file-clause-exact
unfolding data_set_in
returns-in_err-file-clause-exact g c =
    let p = err_from_is_err_and c.from_residual.result c.from_residual.ensures.1 in
    rw (p.1, p.2) (file_fails c.in_err-file.field-0.0 _ c.in_err-file.ensures.exact)

pub returns-in_err-file-clause-come_to : goal.returns-in_err-file-clause-come_to
returns-in_err-file-clause-come_to g c =
    let p = err_from_is_err_and c.from_residual.result c.from_residual.ensures.1 in
    λ h. c.read_file.ensures.come_to (λ e. h (p.1 ∙ ap Err (p.2 ∙ ap fault_of_file (err_is (sym c.in_err-file.was ∙ e)))))

pub returns-in_err-read_dataset-clause-exact : goal.returns-in_err-read_dataset-clause-exact
unfolding data_set_in
returns-in_err-read_dataset-clause-exact g c =
    let p = err_from_is_err_and c.from_residual-in_err-read_dataset.result c.from_residual-in_err-read_dataset.ensures.1 in
    rw (p.1, p.2) (rw c.in_ok-file.ensures.exact (records_fail c.in_err-read_dataset.field-0.0 _ c.in_err-read_dataset.ensures))

pub returns-in_err-read_dataset-clause-come_to : goal.returns-in_err-read_dataset-clause-come_to
returns-in_err-read_dataset-clause-come_to g c = λ _. c.in_ok-file.ensures.come_to (λ e. cc)

pub returns-clause-exact : goal.returns-clause-exact
unfolding data_set_in
returns-clause-exact g c = rw (c.in_ok-file.ensures.exact, c.in_ok-read_dataset.ensures) refl

pub returns-clause-come_to : goal.returns-clause-come_to
returns-clause-come_to g c = λ _. c.in_ok-file.ensures.come_to (λ e. cc)
