-- What is judged is staged.
use Rattle.std.proofs.Common.{Ok, Result, sym, ap}
use Rattle.std.specs.FinMap as map
use Rattle.chart_model.specs.Answers.{or_fault_as}
use Rattle.chart_store.specs.declared.fault.TakeFault.TheVariants.{Refused}
use Rattle.chart_store.specs.declared.refusal.Refusal.{Refusal}
use Rattle.chart_store.specs.Staging.{StagedValue, judged_in, staged_on}
use Rattle.chart_store.proofs.Answering.{given-ok}
use Rattle.chart_store.proofs.Stages.{fails-on, staged-ok}
use Rattle.chart_store.proofs.load.staged_with.Goals as goal

pub returns-in_err-work-clause-staged : goal.returns-in_err-work-clause-staged
returns-in_err-work-clause-staged c =
    let before = map.get c.args.live.now.cells c.args.dataset.header.key in
    fails-on (λ (s : StagedValue). s) c.from_residual.result c.in_err-work.field-0.0
    (judged_in c.args.live.now c.args.dataset before) (λ effect. Ok (staged_on before c.args.file))
    c.from_residual.ensures.1 c.in_err-work.ensures.judged

pub returns-clause-staged : goal.returns-clause-staged
returns-clause-staged c =
    let before = map.get c.args.live.now.cells c.args.dataset.header.key in
    let work = c.in_ok-work.work in
    ap (λ (r : Result StagedValue Refusal). or_fault_as Refused r)
    (staged-ok c.args.live.now c.args.dataset c.args.file before work.effect _ (given-ok _ _ c.in_ok-work.ensures.judged)
    (λ i. record {
      file = c.args.file;
      held = sym c.in_ok-work.ensures.before i;
      chart = sym c.in_ok-work.ensures.chart i;
      done = sym c.in_ok-work.ensures.done i;
    }))
