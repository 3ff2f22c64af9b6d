use Rattle.std.proofs.Common.{◌≡◌, ◌+◌, ℕ, List, length, subst, sym, refl, ap, ◌∙◌}
use Rattle.std.specs.Prelude.{option_map}
use Rattle.bank_pair.specs.Handle.{save_with, value_of}
use Rattle.bank_pair.specs.Pair.{AreFramed, saved_content}
use Rattle.bank_pair.proofs.Named.{says_before, says_one}
use Rattle.bank_pair.proofs.Turned.{ended_reads, length-whole, ready, turned_in_step}
use Rattle.bank_pair.proofs.pair.Pair.flip.Goals as goal

-- what was copied of these frames
copied_from : {a b bodies : List (List ℕ)} {Q : Type 0} → a ≡ b → (AreFramed a bodies → Q) → AreFramed b bodies → Q
copied_from {bodies = bodies} same copied are =
    copied (subst (λ (l : List (List ℕ)). AreFramed l bodies) (sym same) are)

pub end_bank-requires-clause-ends : goal.end_bank-requires-clause-ends
end_bank-requires-clause-ends g c = λ tells.
    let pair = c.args.self.now in
    let desk = c.args.desk.now in
    let step = c.requires.in_step tells in
    let own = ap (option_map (save_with pair.since.items)) c.in-Some.is in
    length-whole (g.D.Desk.contents desk) (g.D.Desk.may_leave desk) (value_of pair) step.0 step.1
    c.other_file-file.result c.other_file-file.ensures (save_with pair.since.items c.in-Some.save) own
    pair.since.items pair.gate
    (ready pair c.in-Some.save c.in-Some.is c.requires.written (save_with pair.since.items c.in-Some.save) own)
    ∙ ap (λ n. 8 + n) (sym (ap length c.as_slice.ensures))

-- while the other bank is ended, the current one says what it said
pub returns-in_err-end_bank-clause-moments : goal.returns-in_err-end_bank-clause-moments
returns-in_err-end_bank-clause-moments g c = λ tells content save bodies step saves are.
    let desk = c.args.desk.now in
    says_before (g.D.Desk.contents desk) (g.D.Desk.may_leave desk) (value_of c.args.self.now) content step
    c.other_file-file.result c.other_file-file.ensures g.D.Desk.clock g.D.Desk.might desk c.end_bank.new.desk
    (g.D.Desk.said desk) (saved_content save bodies) (c.end_bank.ensures.moments tells)

-- and while the head is turned, the one or the other is named
pub returns-in_err-write_through-clause-moments : goal.returns-in_err-write_through-clause-moments
returns-in_err-write_through-clause-moments g c = λ tells content save bodies step saves are.
    let pair = c.args.self.now in
    let desk = c.args.desk.now in
    let mid = c.end_bank.new.desk in
    let other = c.other_file-file.result in
    let other_is = c.other_file-file.ensures in
    let contents = g.D.Desk.contents desk in
    let may_leave = g.D.Desk.may_leave desk in
    let done = c.in_ok-end_bank.ensures in
    let is_ready = ready pair c.in-Some.save c.in-Some.is c.requires.written save saves in
    says_one contents may_leave (value_of pair) content step other other_is (g.D.Desk.contents mid)
    (g.D.Desk.may_leave mid) (done.others tells) (done.crash_others tells) (done.settled tells)
    (saved_content save bodies)
    (ended_reads contents may_leave (value_of pair) content step other other_is save saves pair.since.items pair.gate
    is_ready bodies are (g.D.Desk.contents mid other)
    (copied_from (c.as_slice-2.ensures.value) (done.copied tells bodies)))
    g.D.Desk.clock g.D.Desk.might desk mid c.write_through.new.desk (g.D.Desk.said desk) (g.D.Desk.said mid) _
    (done.said tells) (c.end_bank.ensures.moments tells) (c.write_through.ensures.moments tells)

pub returns-clause-moments : goal.returns-clause-moments
returns-clause-moments g c = λ tells content save bodies step saves are.
    let pair = c.args.self.now in
    let desk = c.args.desk.now in
    let mid = c.end_bank.new.desk in
    let other = c.other_file-file.result in
    let other_is = c.other_file-file.ensures in
    let contents = g.D.Desk.contents desk in
    let may_leave = g.D.Desk.may_leave desk in
    let done = c.in_ok-end_bank.ensures in
    let is_ready = ready pair c.in-Some.save c.in-Some.is c.requires.written save saves in
    says_one contents may_leave (value_of pair) content step other other_is (g.D.Desk.contents mid)
    (g.D.Desk.may_leave mid) (done.others tells) (done.crash_others tells) (done.settled tells)
    (saved_content save bodies)
    (ended_reads contents may_leave (value_of pair) content step other other_is save saves pair.since.items pair.gate
    is_ready bodies are (g.D.Desk.contents mid other)
    (copied_from (c.as_slice-2.ensures.value) (done.copied tells bodies)))
    g.D.Desk.clock g.D.Desk.might desk mid c.write_through.new.desk (g.D.Desk.said desk) (g.D.Desk.said mid) _
    (done.said tells) (c.end_bank.ensures.moments tells) (c.write_through.ensures.moments tells)

-- and then the other bank is the current one
pub returns-clause-turned : goal.returns-clause-turned
returns-clause-turned g c = λ tells content save bodies step saves are.
    let pair = c.args.self.now in
    let desk = c.args.desk.now in
    let mid = c.end_bank.new.desk in
    let last = c.write_through.new.desk in
    let other = c.other_file-file.result in
    let done = c.in_ok-end_bank.ensures in
    let turned = c.in_ok-write_through.ensures in
    let is_ready = ready pair c.in-Some.save c.in-Some.is c.requires.written save saves in
    turned_in_step (g.D.Desk.contents desk) (g.D.Desk.may_leave desk) (value_of pair) content step other
    c.other_file-file.ensures save saves pair.since.items pair.gate is_ready bodies are (g.D.Desk.contents mid other)
    (copied_from c.as_slice-2.ensures.value (done.copied tells bodies))
    (g.D.Desk.contents mid) (g.D.Desk.contents last) (g.D.Desk.may_leave mid) (g.D.Desk.may_leave last)
    _ _ refl (done.settled tells) (turned.others tells) (turned.crash_others tells) (turned.done tells)
    (turned.settled tells) c.at-self.ensures.file c.at-self.ensures.gate
