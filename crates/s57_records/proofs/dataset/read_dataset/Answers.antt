use Rattle.std.proofs.Common.{sym, ◌∙◌}
use Rattle.s57_records.proofs.AnswerLemmas.{given}
use Rattle.s57_records.proofs.Gathering.{dataset_from, dataset_by_rows}
use Rattle.s57_records.proofs.dataset.read_dataset.Goals as goal

pub returns : goal.returns
returns c =
    rw (sym c.file.view_is) (dataset_by_rows c.file.inside.descriptors c.find-rows.result c.file.inside.records c.read_after.result c.find-rows.ensures
    (rw (sym c.as_slice.ensures ∙ c.in-Some.ensures.cases.0) (rw (sym c.as_slice-2.ensures) (dataset_from _ _ c.in_ok-general.general c.read_after.result (sym c.has.ensures ∙ c.if-not-has.false) (given _ _ _ c.read_general.ensures.found c.in_ok-general.was) c.read_after.ensures))))
