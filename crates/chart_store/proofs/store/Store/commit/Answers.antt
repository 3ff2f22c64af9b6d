-- The load of the staged file.
use Rattle.std.proofs.Common.{◌≡◌, ℕ, List, Result, sym, ap, ◌∙◌, subst}
use Rattle.chart_ports.specs.Moments.{LeavesOnly}
use Rattle.chart_model.specs.declared.command.Command.TheVariants.{Load}
use Rattle.chart_store.specs.declared.refusal.Refusal.{Refusal}
use Rattle.chart_store.specs.Live.{state_or}
use Rattle.chart_store.specs.Loaded.{Outcome, loaded}
use Rattle.chart_store.specs.Outcome.{accepted}
use Rattle.chart_store.specs.Staging.{StagedValue}
use Rattle.chart_store.specs.Store.{StandsForEither, pair_of, room_of, state_of}
use Rattle.chart_store.specs.Submitted.{GivesAccepted, fault_of_taking}
use Rattle.chart_store.proofs.Answering.{Fails, given-ok}
use Rattle.chart_store.proofs.Stages.{load-is}
use Rattle.chart_store.proofs.Submitting.{kept-as, kept-stands, no-call, passed-up, taking-fails}
use Rattle.chart_store.proofs.store.Store.commit.Goals as goal

-- ---- where nothing was called

pub returns-in_err-framed-clause-stands : goal.returns-in_err-framed-clause-stands
returns-in_err-framed-clause-stands g c = λ tells stood _ images left.
    kept-stands _ _ c.args.self.now (c.requires.kept tells) stood images left

pub returns-in_err-framed-clause-moments : goal.returns-in_err-framed-clause-moments
returns-in_err-framed-clause-moments g c = λ tells stood.
    no-call g.D.Desk.clock g.D.Desk.might c.args.desk.now _ _ _ c.args.self.now (c.requires.kept tells) stood
    (λ images bytes left. g.met.D.Desk.only_now c.args.desk.now images bytes tells left) _

pub returns-in_err-next-clause-outcome : goal.returns-in_err-next-clause-outcome
returns-in_err-next-clause-outcome g c =
    let live = state_of c.args.self.now in
    let same : c.in_ok-framed.file ≡ c.args.staged.file =
    c.in_ok-framed.ensures.file ∙ ap (λ (s : StagedValue). s.file) c.staged.view_is in
    passed-up c.from_residual-in_err-next.result (fault_of_taking c.in_err-next.field-0.0) live _
    c.from_residual-in_err-next.ensures.1
    (taking-fails live (Load c.args.staged.file) (pair_of c.args.self.now) c.in_err-next.field-0.0
    (subst (λ (wanted : Result Outcome Refusal). Fails c.in_err-next.field-0.0 wanted)
    (ap (loaded live) same ∙ sym (load-is live c.args.staged.file)) c.in_err-next.ensures.after))

pub returns-in_err-next-clause-stands : goal.returns-in_err-next-clause-stands
returns-in_err-next-clause-stands g c = λ tells stood _ images left.
    kept-stands _ _ c.args.self.now (c.requires.kept tells) stood images left

pub returns-in_err-next-clause-moments : goal.returns-in_err-next-clause-moments
returns-in_err-next-clause-moments g c = λ tells stood.
    no-call g.D.Desk.clock g.D.Desk.might c.args.desk.now _ _ _ c.args.self.now (c.requires.kept tells) stood
    (λ images bytes left. g.met.D.Desk.only_now c.args.desk.now images bytes tells left) _

-- ---- where its cell is made

pub keep-requires-clause-record : goal.keep-requires-clause-record
keep-requires-clause-record g c = record {
  command = Load c.staged.inside.file;
  leaves = load-is (state_of c.args.self.now) c.staged.inside.file
      ∙ ap (loaded (state_of c.args.self.now)) (sym c.in_ok-framed.ensures.file)
      ∙ given-ok _ _ c.in_ok-next.ensures.after;
  frames = c.in_ok-framed.ensures.framed;
  need = c.in_ok-framed.ensures.need;
  spelled = c.in_ok-framed.ensures.spelled;
  short = c.in_ok-framed.ensures.length;
}

pub returns-clause-outcome : goal.returns-clause-outcome
returns-clause-outcome g c =
    let live = state_of c.args.self.now in
    let leaves = load-is live c.staged.inside.file ∙ ap (loaded live) (sym c.in_ok-framed.ensures.file)
    ∙ given-ok _ _ c.in_ok-next.ensures.after in
    subst (λ (l : List ℕ). GivesAccepted c.keep.result (state_of c.keep.new.self)
    (accepted live (room_of c.args.self.now) (Load l))) (ap (λ (s : StagedValue). s.file) c.staged.view_is)
    (subst (λ (wanted : Result Outcome Refusal). GivesAccepted c.keep.result (state_of c.keep.new.self) wanted)
    (kept-as live (Load c.staged.inside.file) (pair_of c.args.self.now) _ _ leaves c.in_ok-framed.ensures.need)
    c.keep.ensures.outcome)

pub returns-clause-moments : goal.returns-clause-moments
returns-clause-moments g c = λ tells stood.
    let live = state_of c.args.self.now in
    let leaves = load-is live c.staged.inside.file ∙ ap (loaded live) (sym c.in_ok-framed.ensures.file)
    ∙ given-ok _ _ c.in_ok-next.ensures.after in
    subst (λ (l : List ℕ). LeavesOnly g.D.Desk.clock g.D.Desk.might c.args.desk.now c.keep.new.desk
    (StandsForEither (g.D.Desk.said c.args.desk.now) live
    (state_or live (accepted live (room_of c.args.self.now) (Load l)))))
    (ap (λ (s : StagedValue). s.file) c.staged.view_is)
    (subst (λ (wanted : Result Outcome Refusal). LeavesOnly g.D.Desk.clock g.D.Desk.might c.args.desk.now
    c.keep.new.desk (StandsForEither (g.D.Desk.said c.args.desk.now) live (state_or live wanted)))
    (kept-as live (Load c.staged.inside.file) (pair_of c.args.self.now) _ _ leaves c.in_ok-framed.ensures.need)
    (c.keep.ensures.moments tells stood))
