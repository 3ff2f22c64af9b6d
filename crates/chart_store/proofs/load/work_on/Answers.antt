-- What was judged can be built.
use Rattle.std.proofs.Common.{◌≡◌, IfSome, Option, Ok, sym, ap, ◌∙◌, subst}
use Rattle.std.specs.Option.{option_copied}
use Rattle.chart_model.specs.State.{IsHolding}
use Rattle.chart_model.specs.declared.state.Held.{Held}
use Rattle.chart_model.specs.declared.state.Holding.{Holding}
use Rattle.update_sequence.specs.Judged.{judged}
use Rattle.chart_store.specs.Live.{HasClosedChart}
use Rattle.chart_store.specs.Loaded.{held_of}
use Rattle.chart_store.proofs.Placing.{may-build}
use Rattle.chart_store.proofs.load.work_on.Goals as goal

pub on-requires : goal.on-requires
on-requires c =
    let key = c.key_of-key.result in
    let judges : judged (held_of (option_copied c.get-before.result)) c.args.dataset ≡ Ok c.in_ok-effect.effect =
    sym (c.in_ok-effect.ensures ∙ ap (λ (n : Option Held). judged n c.args.dataset) c.held_of.ensures) in
    may-build key (option_copied c.get-before.result) c.args.dataset c.in_ok-effect.effect
    (c.files_are_data_sets.ensures.kept c.requires.0 c.args.dataset c.requires.1)
    (subst (λ (o : Option Holding). IfSome o (IsHolding key)) (sym c.get-before.ensures) (c.cells.ensures.holdings key))
    (subst (λ (o : Option Holding). IfSome o (HasClosedChart key)) (sym c.get-before.ensures)
    (c.cells.ensures.closed key))
    judges
