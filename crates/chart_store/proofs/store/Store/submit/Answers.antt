use Rattle.std.proofs.Common.{Result, Err, ap, ◌∙◌, subst, arith}
use Rattle.chart_store.specs.declared.refusal.Refusal.{Refusal}
use Rattle.chart_ports.specs.Moments.{LeavesOnly}
use Rattle.chart_store.specs.Live.{state_or}
use Rattle.chart_store.specs.Loaded.{Outcome}
use Rattle.chart_store.specs.Store.{StandsForEither, pair_of, state_of}
use Rattle.chart_store.specs.Submitted.{GivesAccepted, fault_of_taking}
use Rattle.chart_store.proofs.Answering.{given-ok}
use Rattle.chart_store.proofs.Submitting.{kept-as, kept-stands, no-call, passed-is, passed-up, record-fails, record-unread}
use Rattle.chart_store.proofs.Submitting.{taking-fails}
use Rattle.chart_store.proofs.store.Store.submit.Goals as goal

-- ---- where nothing was called

pub returns-in_err-framed-clause-outcome : goal.returns-in_err-framed-clause-outcome
returns-in_err-framed-clause-outcome g c =
    passed-up c.from_residual.result c.in_err-framed.field-0.0 (state_of c.args.self.now) _ c.from_residual.ensures.1
    (record-fails (state_of c.args.self.now) c.args.command (pair_of c.args.self.now) _ c.in_err-framed.ensures.refused)

pub returns-in_err-framed-clause-stands : goal.returns-in_err-framed-clause-stands
returns-in_err-framed-clause-stands g c = λ tells stood _ images left.
    kept-stands _ _ c.args.self.now (c.requires.kept tells) stood images left

pub returns-in_err-framed-clause-moments : goal.returns-in_err-framed-clause-moments
returns-in_err-framed-clause-moments g c = λ tells stood.
    no-call g.D.Desk.clock g.D.Desk.might c.args.desk.now _ _ _ c.args.self.now (c.requires.kept tells) stood
    (λ images bytes left. g.met.D.Desk.only_now c.args.desk.now images bytes tells left) _

pub returns-in_err-framed-clause-read : goal.returns-in_err-framed-clause-read
returns-in_err-framed-clause-read g c = λ file loads memory.
    omega (
      arith,
      record-unread c.args.command c.in_err-framed.field-0.0 c.in_err-framed.ensures.refused
          (λ e. c.in_err-framed.ensures.no_desk (ap Err e))
          (λ e. memory (passed-is c.from_residual.result c.in_err-framed.field-0.0 c.from_residual.ensures.1 ∙ ap Err e))
          file loads,
    )

pub returns-in_err-next-clause-outcome : goal.returns-in_err-next-clause-outcome
returns-in_err-next-clause-outcome g c =
    passed-up c.from_residual-in_err-next.result (fault_of_taking c.in_err-next.field-0.0) c.args.self.now.live _
    c.from_residual-in_err-next.ensures.1
    (taking-fails (state_of c.args.self.now) c.args.command (pair_of c.args.self.now) c.in_err-next.field-0.0
    c.in_err-next.ensures.after)

pub returns-in_err-next-clause-stands : goal.returns-in_err-next-clause-stands
returns-in_err-next-clause-stands g c = λ tells stood _ images left.
    kept-stands _ _ c.args.self.now (c.requires.kept tells) stood images left

pub returns-in_err-next-clause-moments : goal.returns-in_err-next-clause-moments
returns-in_err-next-clause-moments g c = λ tells stood.
    no-call g.D.Desk.clock g.D.Desk.might c.args.desk.now _ _ _ c.args.self.now (c.requires.kept tells) stood
    (λ images bytes left. g.met.D.Desk.only_now c.args.desk.now images bytes tells left) _

-- ---- where its cell is made

pub keep-requires-clause-record : goal.keep-requires-clause-record
keep-requires-clause-record g c = record {
  command = c.args.command;
  leaves = given-ok _ _ c.in_ok-next.ensures.after;
  frames = c.in_ok-framed.ensures.framed;
  need = c.in_ok-framed.ensures.need;
  spelled = c.in_ok-framed.ensures.spelled;
  short = c.in_ok-framed.ensures.length;
}

pub returns-clause-outcome : goal.returns-clause-outcome
returns-clause-outcome g c =
    subst (λ (wanted : Result Outcome Refusal). GivesAccepted c.keep.result (state_of c.keep.new.self) wanted)
    (kept-as (state_of c.args.self.now) c.args.command (pair_of c.args.self.now) _ _
    (given-ok _ _ c.in_ok-next.ensures.after) c.in_ok-framed.ensures.need)
    c.keep.ensures.outcome

pub returns-clause-moments : goal.returns-clause-moments
returns-clause-moments g c = λ tells stood.
    subst (λ (wanted : Result Outcome Refusal). LeavesOnly g.D.Desk.clock g.D.Desk.might c.args.desk.now c.keep.new.desk
    (StandsForEither (g.D.Desk.said c.args.desk.now) (state_of c.args.self.now)
    (state_or (state_of c.args.self.now) wanted)))
    (kept-as (state_of c.args.self.now) c.args.command (pair_of c.args.self.now) _ _
    (given-ok _ _ c.in_ok-next.ensures.after) c.in_ok-framed.ensures.need)
    (c.keep.ensures.moments tells stood)
