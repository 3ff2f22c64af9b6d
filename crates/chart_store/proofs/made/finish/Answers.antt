-- The names that an update's changes gave are of the charts before and after.
use Rattle.std.proofs.Common.{IfSome, Option, sym, subst}
use Rattle.std.specs.Option.{option_copied}
use Rattle.chart_model.specs.Cell.{CellValue}
use Rattle.chart_store.specs.Begun.{AreOfUpdate}
use Rattle.chart_store.proofs.Answering.{given-ok}
use Rattle.chart_store.proofs.Drafting.{of-update}
use Rattle.chart_store.proofs.made.finish.Goals as goal

pub changed_by-requires : goal.changed_by-requires
changed_by-requires c =
    let own = c.requires in
    let is = own.2 in
    subst (λ (now : Option CellValue). IfSome c.args.begun.targets (λ targets.
    AreOfUpdate targets (option_copied c.args.before) now)) (sym c.as_ref.ensures.value)
    (of-update c.args.begun.targets (option_copied c.args.before) c.in_ok-chart.chart c.args.effect own.0 is.may is.update
    is.targets
    (given-ok _ _ (c.in_ok-chart.ensures (option_copied c.args.before) own.0 own.1 is.may is.draft)))
