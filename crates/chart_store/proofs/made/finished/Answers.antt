-- A file that cancels its cell leaves no chart, and any other the one that its draft comes to.
use Rattle.std.proofs.Common.{◌≢◌, rules, IfSome, Option, Result, subst}
use Rattle.std.proofs.lemmas.Grind.{common_steps}
use Rattle.chart_model.specs.Cell.{CellValue}
use Rattle.update_sequence.specs.Draft.{DraftValue}
use Rattle.update_sequence.specs.declared.effect.Effect.TheVariants.{Cancel}
use Rattle.chart_store.specs.Begun.{IsDraftOf}
use Rattle.chart_store.specs.Fault.{GivesBy}
use Rattle.chart_store.specs.declared.refusal.Refusal.{Refusal}
use Rattle.chart_store.proofs.Drafting.{finished-after}
use Rattle.chart_store.proofs.made.finished.Goals as goal

pub returns : goal.returns
returns c = λ chart dataset done may is.
    let other : c.args.effect ≢ Cancel = first_of (search rules, grind common_steps) in
    subst (λ (wanted : Result (Option CellValue) Refusal). GivesBy (λ after. after) c.chart_of_draft.result wanted)
    (finished-after c.drafts_advance.ensures.comes c.drafts_build_charts.ensures chart c.args.effect dataset done
    c.in-Some.draft may other
    (subst (λ (draft : Option DraftValue). IfSome draft (IsDraftOf chart dataset done)) c.in-Some.is is))
    c.chart_of_draft.ensures
