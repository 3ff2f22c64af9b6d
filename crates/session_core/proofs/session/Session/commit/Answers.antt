-- Where the store isn't called nothing is counted, and a crash leaves what it might have left before.
use Rattle.session_core.specs.Session.{model_of, staging_in, store_of}
use Rattle.session_core.specs.Staging.{commit_turn}
use Rattle.session_core.proofs.Stepping.{none-taken}
use Rattle.session_core.proofs.Turning.{no-call}
use Rattle.session_core.proofs.session.Session.commit.Goals as goal

pub returns-in_default-clause-steps : goal.returns-in_default-clause-steps
returns-in_default-clause-steps g c = none-taken 0 (model_of c.args.self.now).state c.args.steps.now

pub returns-in_err-reply-clause-moments : goal.returns-in_err-reply-clause-moments
returns-in_err-reply-clause-moments g c = λ tells stood.
    no-call g.D.Desk.clock g.D.Desk.might c.args.desk.now (g.D.Desk.may_leave c.args.desk.now) (g.D.Desk.said c.args.desk.now)
    (model_of c.args.self.now).state (commit_turn (model_of c.args.self.now) (staging_in c.args.self.now)).model.state
    (λ images bytes left. g.met.D.Desk.only_now c.args.desk.now images bytes tells left)
    (λ images left. c.kept_stores_are_read.ensures.stands c.args.desk.now (store_of c.args.self.now) images (c.requires.ready.kept tells) stood left)

pub returns-in_err-reply-clause-steps : goal.returns-in_err-reply-clause-steps
returns-in_err-reply-clause-steps g c = none-taken 0 (model_of c.args.self.now).state c.args.steps.now

pub returns-in-Some-last-clause-moments : goal.returns-in-Some-last-clause-moments
returns-in-Some-last-clause-moments g c = λ tells stood.
    no-call g.D.Desk.clock g.D.Desk.might c.args.desk.now (g.D.Desk.may_leave c.args.desk.now) (g.D.Desk.said c.args.desk.now)
    (model_of c.args.self.now).state (commit_turn (model_of c.args.self.now) (staging_in c.args.self.now)).model.state
    (λ images bytes left. g.met.D.Desk.only_now c.args.desk.now images bytes tells left)
    (λ images left. c.kept_stores_are_read.ensures.stands c.args.desk.now (store_of c.args.self.now) images (c.requires.ready.kept tells) stood left)

pub returns-in-Some-last-clause-steps : goal.returns-in-Some-last-clause-steps
returns-in-Some-last-clause-steps g c = none-taken 0 (model_of c.args.self.now).state c.args.steps.now
