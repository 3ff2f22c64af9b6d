use Rattle.std.proofs.Common.{sym, ◌∙◌, arith}
use Rattle.std.proofs.lemmas.Result.{err_from_is_err_and}
use Rattle.lookup_table.specs.Lines.{line_in}
use Rattle.lookup_table.proofs.Looked.{named_taken, named_refused}
use Rattle.lookup_table.proofs.Progress.{line_failed}
use Rattle.lookup_table.proofs.read.read_line.Goals as goal

pub returns-in_err-line : goal.returns-in_err-line
returns-in_err-line c =
    let p = err_from_is_err_and c.from_residual-in_err-line.result c.from_residual-in_err-line.ensures.1 in
    line_failed c.from_residual-in_err-line.result c.in_err-line.field-0.0 p.0 (line_in c.args.catalogue.now c.args.number c.args.line.now) p.1 p.2
    (named_refused c.args.catalogue.now c.args.number c.args.line.now c.in-Some.written c.in_err-line.field-0.0 (omega arith)
    (sym c.is_silent.ensures.function ∙ c.if-is_silent.false) (sym c.in_ok-written.ensures ∙ c.in-Some.is) c.in_err-line.ensures)

pub returns : goal.returns
returns c =
    named_taken c.args.catalogue.now c.args.number c.args.line.now c.in-Some.written c.in_ok-line.line (omega arith)
    (sym c.is_silent.ensures.function ∙ c.if-is_silent.false) (sym c.in_ok-written.ensures ∙ c.in-Some.is) c.in_ok-line.ensures
