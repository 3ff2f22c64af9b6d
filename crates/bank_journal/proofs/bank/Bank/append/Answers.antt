use Rattle.std.proofs.Common.{◌∙◌, ◌+◌, arith}
use Rattle.bank_journal.proofs.Fronts.{inside}
use Rattle.bank_journal.proofs.Appending.{first_write, both_writes, in_step_after, reaches}
use Rattle.bank_journal.proofs.bank.Bank.append.Goals as goal

-- the first write leaves the records as they were
pub returns-in_err-write_through-clause-moments : goal.returns-in_err-write_through-clause-moments
returns-in_err-write_through-clause-moments g c = λ tells content body step fits framed_is.
    first_write step body fits (c.as_slice-bytes.ensures ∙ framed_is) (c.write_through.ensures.moments tells)

-- the second leaves them with the new one or without
pub returns-in_err-write_through-2-clause-moments : goal.returns-in_err-write_through-2-clause-moments
returns-in_err-write_through-2-clause-moments g c = λ tells content body step fits framed_is.
    let first = c.write_through.ensures in
    both_writes step body fits (c.as_slice-bytes.ensures ∙ framed_is) (first.moments tells) (first.said tells)
    (first.crash_others tells) (c.in_ok-write_through.ensures.done tells) (c.write_through-2.ensures.moments tells)

pub returns-clause-moments : goal.returns-clause-moments
returns-clause-moments g c = λ tells content body step fits framed_is.
    let first = c.write_through.ensures in
    both_writes step body fits (c.as_slice-bytes.ensures ∙ framed_is) (first.moments tells) (first.said tells)
    (first.crash_others tells) (c.in_ok-write_through.ensures.done tells) (c.write_through-2.ensures.moments tells)

-- and then the gate is open, on the disk
pub returns-clause-appended : goal.returns-clause-appended
returns-clause-appended g c = λ tells content body step fits framed_is.
    let file = c.args.self.now.file in
    in_step_after (g.D.Desk.contents c.args.desk.now file) content step.has c.args.self.now.gate step.gate body
    c.as_slice-bytes.result.now fits (c.as_slice-bytes.ensures ∙ framed_is)
    (g.D.Desk.may_leave c.write_through-2.new.desk file) (g.D.Desk.contents c.write_through.new.desk file)
    (g.D.Desk.contents c.write_through-2.new.desk file)
    (c.in_ok-write_through-2.ensures.done tells) (c.in_ok-write_through.ensures.done tells)
    (c.in_ok-write_through-2.ensures.settled tells)

-- ---- both writes are within the file

pub write_through-requires-clause-within : goal.write_through-requires-clause-within
write_through-requires-clause-within g c = λ tells.
    let step = c.requires.in_step tells in
    omega (arith, inside (g.D.Desk.contents c.args.desk.now c.args.self.now.file) step.0 step.1.has c.args.self.now.gate step.1.gate)

pub write_through-requires-2-clause-within : goal.write_through-requires-2-clause-within
write_through-requires-2-clause-within g c = λ tells.
    let step = c.requires.in_step tells in
    let old = g.D.Desk.contents c.args.desk.now c.args.self.now.file in
    let gate = c.args.self.now.gate in
    let past = reaches (gate + 1) _ old _ (omega (arith, inside old step.0 step.1.has gate step.1.gate)) (c.in_ok-write_through.ensures.done tells) in
    omega (arith, past)
