use Rattle.std.proofs.Common.{sym}
use Rattle.chart_model.specs.Dataset.{DatasetValue}
use Rattle.update_sequence.proofs.Rebuilding.{chart_with-made}
use Rattle.update_sequence.proofs.files.follow.Goals as goal

pub returns-in-Ok : goal.returns-in-Ok
returns-in-Ok c =
    let d = c.dataset.inside in
    let seen : DatasetValue = record { header = d.header; base = d.base; cancels = d.cancels; changes = d.changes } in
    let made = rw c.begun-draft.ensures at c.in-Ok.ensures in
    let builds = rw (sym c.dataset.view_is) at c.requires in
    rw (sym c.dataset.view_is) (sym (chart_with-made c.args.chart seen c.in-Ok.cell c.if-dataset.false made (builds c.if-dataset.false)))
