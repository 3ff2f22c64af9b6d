use Rattle.std.proofs.Common.{◌≡◌, ◌∷◌, rules}
use Rattle.std.proofs.lemmas.Result.{err_from_is_err_and}
use Rattle.colour_table.specs.Reading.{colours_in}
use Rattle.colour_table.proofs.Progress.{read_none, read_more, read_fault, read_all, failed}
use Rattle.colour_table.proofs.read.read_colours.Goals as goal

pub loop-number-init : goal.loop-number-init
loop-number-init c = read_none c.args.bytes.now _ c.new-colours.result (search rules) c.new-colours.ensures

pub loop-number-preserved : goal.loop-number-preserved
loop-number-preserved c =
    let next : c.loop-number.number-iterator ≡ (c.in-Some.number, c.in-Some.line.now) ∷ c.next.new.self = search rules in
    read_more c.args.bytes.now c.loop-number.number-iterator c.next.new.self c.in-Some.number c.in-Some.line.now c.loop-number.colours
    c.loop-number.invariant next c.in_ok-colours.colours c.in_ok-colours.ensures

pub returns-in_err-colours : goal.returns-in_err-colours
returns-in_err-colours c =
    let next : c.loop-number.number-iterator ≡ (c.in-Some.number, c.in-Some.line.now) ∷ c.next.new.self = search rules in
    let p = err_from_is_err_and c.from_residual.result c.from_residual.ensures.1 in
    failed c.from_residual.result c.in_err-colours.field-0.0 p.0 (colours_in c.args.bytes.now) p.1 p.2
    (read_fault c.args.bytes.now c.loop-number.number-iterator c.next.new.self c.in-Some.number c.in-Some.line.now c.loop-number.colours
    c.loop-number.invariant next c.in_err-colours.field-0.0 c.in_err-colours.ensures)

pub returns : goal.returns
returns c = read_all c.args.bytes.now c.loop-number.number-iterator c.loop-number.colours c.loop-number.invariant c.in-None.ensures.steps.0
