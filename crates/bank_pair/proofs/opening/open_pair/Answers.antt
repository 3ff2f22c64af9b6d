use Rattle.std.proofs.Common.{◌∙◌, arith}
use Rattle.std.proofs.lemmas.Result.{err_from_is_err_and}
use Rattle.bank_pair.proofs.Opened.{foreign_named, opened_content, opens_behind, refused_left}
use Rattle.bank_pair.proofs.opening.open_pair.Goals as goal

pub returns-in_err-bank-clause-foreign : goal.returns-in_err-bank-clause-foreign
returns-in_err-bank-clause-foreign g c = λ tells.
    let exit = c.from_residual-in_err-bank in
    let p = err_from_is_err_and exit.result exit.ensures.1 in
    let head = c.in_ok-file.ensures in
    rw (p.1, p.2) (foreign_named (g.D.Desk.contents c.args.desk.now) (g.D.Desk.contents c.open_head.new.desk)
    c.in_ok-file.file head.bank (head.named tells) (head.files tells) c.in_err-bank.field-0.0
    (c.in_err-bank.ensures.foreign tells))

pub returns-in_err-bank-clause-refused : goal.returns-in_err-bank-clause-refused
returns-in_err-bank-clause-refused g c = λ tells.
    let exit = c.from_residual-in_err-bank in
    let p = err_from_is_err_and exit.result exit.ensures.1 in
    let head = c.in_ok-file.ensures in
    rw (p.1, p.2) (refused_left (g.D.Desk.contents c.args.desk.now) (g.D.Desk.contents c.open_head.new.desk)
    c.in_ok-file.file head.bank (head.named tells) (head.files tells) (g.D.Desk.contents c.open_bank.new.desk)
    c.in_err-bank.field-0.0 (c.in_err-bank.ensures.foreign tells) (c.open_bank.ensures.long tells))

pub returns-clause-content : goal.returns-clause-content
returns-clause-content g c = λ tells.
    let head = c.in_ok-file.ensures in
    opened_content (g.D.Desk.contents c.args.desk.now) (g.D.Desk.contents c.open_head.new.desk) c.in_ok-file.file
    head.bank (head.named tells) (head.files tells) ∙ c.in_ok-bank.ensures.content tells

pub returns-in_err-bank-clause-moments : goal.returns-in_err-bank-clause-moments
returns-in_err-bank-clause-moments g c = λ tells.
    let head = c.in_ok-file.ensures in
    opens_behind _ _ c.in_ok-file.file head.bank (head.named tells) (head.files tells) g.D.Desk.clock g.D.Desk.might
    _ _ _ _ _ _ _ (c.open_head.ensures.moments tells) (head.settled tells 0 (omega arith))
    (c.open_head.ensures.said tells) (c.open_bank.ensures.moments tells)

pub returns-clause-moments : goal.returns-clause-moments
returns-clause-moments g c = λ tells.
    let head = c.in_ok-file.ensures in
    opens_behind _ _ c.in_ok-file.file head.bank (head.named tells) (head.files tells) g.D.Desk.clock g.D.Desk.might
    _ _ _ _ _ _ _ (c.open_head.ensures.moments tells) (head.settled tells 0 (omega arith))
    (c.open_head.ensures.said tells) (c.open_bank.ensures.moments tells)
