use Rattle.std.proofs.Common.{◌<◌, ◌≤◌, ℕ, List, length, ap, ◌∙◌, arith}
use Rattle.bank_journal.proofs.InStep.{read_opened_in_step, short_content, still_settled}
use Rattle.bank_journal.proofs.opening.open_bank.Goals as goal

pub returns-then-len-gt-LONGEST_EMPTY-clause-in_step : goal.returns-then-len-gt-LONGEST_EMPTY-clause-in_step
returns-then-len-gt-LONGEST_EMPTY-clause-in_step g c = λ tells.
    let file = c.args.file in
    let old = g.D.Desk.contents c.args.desk.now file in
    let next = g.D.Desk.contents c.read_whole.new.desk file in
    let then_may = g.D.Desk.may_leave c.read_whole.new.desk file in
    let same = c.read_whole.ensures.files tells file in
    let bytes : List ℕ = c.in_ok-bytes.bytes.items in
    let long : 9 < length bytes = omega
    (arith, c.if-len-gt-LONGEST_EMPTY.true, c.len.ensures, c.in_ok-bytes.bytes.ok) in
    read_opened_in_step old next bytes then_may c.read_opened.result (c.in_ok-bytes.ensures.bytes tells) long
    c.read_opened.ensures.content c.read_opened.ensures.gate same
    (still_settled (g.D.Desk.may_leave c.args.desk.now file) then_may old next (c.requires.settled tells)
    (c.read_whole.ensures.crash tells file) same)

pub returns-clause-content : goal.returns-clause-content
returns-clause-content g c = λ tells.
    let old = g.D.Desk.contents c.args.desk.now c.args.file in
    let short : length old ≤ 9 = omega (
      arith,
      c.if-len-gt-LONGEST_EMPTY.false,
      c.len.ensures,
      ap length (c.in_ok-bytes.ensures.bytes tells),
      c.in_ok-bytes.bytes.ok,
    ) in
    short_content old c.write_empty.result short c.write_empty.ensures.content
