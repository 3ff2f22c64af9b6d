use Rattle.std.proofs.Common.{Err, refl, sym, ◌∙◌, ap}
use Rattle.std.proofs.lemmas.Result.{err_from_is_err_and}
use Rattle.exchange_catalogue.specs.Answers.{fault_of_file}
use Rattle.exchange_catalogue.specs.Catalogue.{tags_read, catalogue_in}
use Rattle.exchange_catalogue.proofs.Counted.{few_records}
use Rattle.exchange_catalogue.proofs.Failing.{file_fails, entries_fail, err_is}
use Rattle.exchange_catalogue.proofs.read.read_catalogue.Goals as goal

pub read_entries-requires : goal.read_entries-requires
read_entries-requires g c = few_records tags_read c.args.bytes.now c.in_ok-file.file c.in_ok-file.ensures.reading
    c.requires

pub returns-in_err-file-clause-exact : goal.returns-in_err-file-clause-exact
unfolding catalogue_in
returns-in_err-file-clause-exact g c =
    let p = err_from_is_err_and c.from_residual.result c.from_residual.ensures.1 in
    rw (p.1, p.2) (file_fails c.in_err-file.field-0.0 _ c.in_err-file.ensures.exact)

pub returns-in_err-file-clause-come_to : goal.returns-in_err-file-clause-come_to
returns-in_err-file-clause-come_to g c =
    let p = err_from_is_err_and c.from_residual.result c.from_residual.ensures.1 in
    λ h. c.read_file.ensures.come_to
    (λ e. h (p.1 ∙ ap Err (p.2 ∙ ap fault_of_file (err_is (sym c.in_err-file.was ∙ e)))))

pub returns-in_err-read_entries-clause-exact : goal.returns-in_err-read_entries-clause-exact
unfolding catalogue_in
returns-in_err-read_entries-clause-exact g c =
    let p = err_from_is_err_and c.from_residual-in_err-read_entries.result c.from_residual-in_err-read_entries.ensures.1
    in
    rw (p.1, p.2) (rw c.in_ok-file.ensures.exact
    (entries_fail c.in_err-read_entries.field-0.0 _ c.in_err-read_entries.ensures))

pub returns-in_err-read_entries-clause-come_to : goal.returns-in_err-read_entries-clause-come_to
returns-in_err-read_entries-clause-come_to g c = λ _. c.in_ok-file.ensures.come_to (λ e. cc)

pub returns-clause-exact : goal.returns-clause-exact
unfolding catalogue_in
returns-clause-exact g c = rw (c.in_ok-file.ensures.exact, c.in_ok-read_entries.ensures) refl

pub returns-clause-come_to : goal.returns-clause-come_to
returns-clause-come_to g c = λ _. c.in_ok-file.ensures.come_to (λ e. cc)
