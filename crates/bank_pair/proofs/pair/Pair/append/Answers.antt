use Rattle.bank_pair.proofs.Appending.{current_appended, nothing_done}
use Rattle.bank_pair.proofs.pair.Pair.append.Goals as goal

-- a record that is refused takes no call of the desk
pub returns-in_err-ask_both-clause-moments : goal.returns-in_err-ask_both-clause-moments
returns-in_err-ask_both-clause-moments g c = λ tells content body step fits framed_is.
    nothing_done step _ g.D.Desk.clock g.D.Desk.might c.args.desk.now _
    (λ images so_far left. g.met.D.Desk.only_now c.args.desk.now images so_far tells left)

-- any other is appended to the current bank
pub returns-in_err-append-clause-moments : goal.returns-in_err-append-clause-moments
returns-in_err-append-clause-moments g c = λ tells content body step fits framed_is.
    current_appended step _ g.D.Desk.clock g.D.Desk.might _ _ body c.args.self.now.bank.bank
    (c.append.ensures.moments tells content body step.bank fits framed_is)

pub returns-clause-moments : goal.returns-clause-moments
returns-clause-moments g c = λ tells content body step fits framed_is.
    current_appended step _ g.D.Desk.clock g.D.Desk.might _ _ body c.args.self.now.bank.bank
    (c.append.ensures.moments tells content body step.bank fits framed_is)
