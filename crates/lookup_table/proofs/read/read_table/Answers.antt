use Rattle.std.proofs.Common.{◌≡◌, ◌∷◌, rules}
use Rattle.std.proofs.lemmas.Result.{err_from_is_err_and}
use Rattle.lookup_table.specs.Lines.{table_in}
use Rattle.lookup_table.proofs.Progress.{read_none, read_more, read_fault, read_all, failed}
use Rattle.lookup_table.proofs.read.read_table.Goals as goal

pub loop-number-init : goal.loop-number-init
loop-number-init c = read_none c.args.catalogue.now c.args.bytes.now _ c.new-table.result (search rules) c.new-table.ensures

pub loop-number-preserved : goal.loop-number-preserved
loop-number-preserved c =
    let next : c.loop-number.number-iterator ≡ (c.in-Some.number, c.in-Some.line.now) ∷ c.next.new.self = search rules in
    read_more c.args.catalogue.now c.args.bytes.now c.loop-number.number-iterator c.next.new.self c.in-Some.number c.in-Some.line.now c.loop-number.table
    c.loop-number.invariant next c.in_ok-said.said c.in_ok-table.table c.in_ok-said.ensures c.in_ok-table.ensures

pub returns-in_err-said : goal.returns-in_err-said
returns-in_err-said c =
    let next : c.loop-number.number-iterator ≡ (c.in-Some.number, c.in-Some.line.now) ∷ c.next.new.self = search rules in
    let p = err_from_is_err_and c.from_residual.result c.from_residual.ensures.1 in
    failed c.from_residual.result c.in_err-said.field-0.0 p.0 (table_in c.args.catalogue.now c.args.bytes.now) p.1 p.2
    (read_fault c.args.catalogue.now c.args.bytes.now c.loop-number.number-iterator c.next.new.self c.in-Some.number c.in-Some.line.now c.loop-number.table
    c.loop-number.invariant next c.in_err-said.field-0.0 c.in_err-said.ensures)

pub returns : goal.returns
returns c =
    read_all c.args.catalogue.now c.args.bytes.now c.loop-number.number-iterator c.loop-number.table c.loop-number.invariant c.in-None.ensures.steps.0
