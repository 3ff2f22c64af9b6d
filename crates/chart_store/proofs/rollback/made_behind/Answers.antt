-- What was judged can be built on what is kept, and what can't be built can't follow.
use Rattle.std.proofs.Common.{◌≡◌, Option, Ok, sym, ap, ◌∙◌, subst}
use Rattle.std.specs.Option.{option_copied}
use Rattle.chart_model.specs.Cell.{CellValue}
use Rattle.chart_model.specs.declared.state.Held.{Held}
use Rattle.update_sequence.specs.Judged.{judged}
use Rattle.chart_store.specs.declared.fault.TakeFault.{TakeFault}
use Rattle.chart_store.specs.Loaded.{chart_after, held_of}
use Rattle.chart_store.specs.Taken.{MayBuild}
use Rattle.chart_store.proofs.Answering.{Fails, Fails-refused}
use Rattle.chart_store.proofs.Following.{can-build}
use Rattle.chart_store.proofs.Judging.{stands_by_base}
use Rattle.chart_store.proofs.Placing.{closed-held-if, live-held-if, may-build}
use Rattle.chart_store.proofs.rollback.made_behind.Goals as goal

pub made_by-requires : goal.made_by-requires
made_by-requires c =
    let judges : judged (held_of (option_copied c.args.kept)) c.args.dataset ≡ Ok c.in-Ok.effect =
    sym (c.judge.ensures ∙ ap (λ (n : Option Held). judged n c.args.dataset) c.held_of.ensures) ∙ c.in-Ok.is in
    subst (λ (chart : Option CellValue). MayBuild chart c.in-Ok.effect c.args.dataset) (sym c.chart_of.ensures)
    (may-build c.args.key (option_copied c.args.kept) c.args.dataset c.in-Ok.effect c.requires.is
    (live-held-if c.sequences_are_held.ensures.held c.args.key (option_copied c.args.kept) c.requires.kept)
    (closed-held-if c.sequences_are_held.ensures.closed c.args.key (option_copied c.args.kept) c.requires.kept) judges)

pub returns-in-Err-Refused-clause-none : goal.returns-in-Err-Refused-clause-none
returns-in-Err-Refused-clause-none c =
    let judges : judged (held_of (option_copied c.args.kept)) c.args.dataset ≡ Ok c.in-Ok.effect =
    sym (c.judge.ensures ∙ ap (λ (n : Option Held). judged n c.args.dataset) c.held_of.ensures) ∙ c.in-Ok.is in
    let refused = Fails-refused (chart_after (option_copied c.chart_of.result) c.in-Ok.effect c.args.dataset)
    c.in-Err-Refused.field-0-0 (subst (λ (f : TakeFault). Fails f (chart_after (option_copied c.chart_of.result)
    c.in-Ok.effect c.args.dataset)) c.in-Err-Refused.field-0-is c.in-Err-Refused.ensures.chart) in
    can-build (option_copied c.args.kept) c.args.dataset c.in-Ok.effect c.in-Err-Refused.field-0-0 c.requires.order
    (stands_by_base c.args.dataset c.requires.is) judges
    (sym (ap (λ (o : Option CellValue). chart_after o c.in-Ok.effect c.args.dataset) c.chart_of.ensures) ∙ refused)
