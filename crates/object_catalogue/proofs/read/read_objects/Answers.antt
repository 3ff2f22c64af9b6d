use Rattle.std.proofs.Common.{◌≡◌, ◌∷◌, rules}
use Rattle.std.proofs.lemmas.Result.{err_from_is_err_and}
use Rattle.object_catalogue.specs.Reading.{catalogue_in}
use Rattle.object_catalogue.proofs.Progress.{read_none, read_more, read_fault, read_all, failed}
use Rattle.object_catalogue.proofs.read.read_objects.Goals as goal

pub loop-number-init : goal.loop-number-init
loop-number-init c = read_none c.args.bytes.now _ c.new-catalogue.result (search rules) c.new-catalogue.ensures

pub loop-number-preserved : goal.loop-number-preserved
loop-number-preserved c =
    let next : c.loop-number.number-iterator ≡ (c.in-Some.number, c.in-Some.line.now) ∷ c.next.new.self = search rules in
    read_more c.args.bytes.now c.loop-number.number-iterator c.next.new.self c.in-Some.number c.in-Some.line.now c.loop-number.catalogue
    c.loop-number.invariant next c.in_ok-catalogue.catalogue c.in_ok-catalogue.ensures

pub returns-in_err-catalogue : goal.returns-in_err-catalogue
returns-in_err-catalogue c =
    let next : c.loop-number.number-iterator ≡ (c.in-Some.number, c.in-Some.line.now) ∷ c.next.new.self = search rules in
    let p = err_from_is_err_and c.from_residual.result c.from_residual.ensures.1 in
    failed c.from_residual.result c.in_err-catalogue.field-0.0 p.0 (catalogue_in c.args.bytes.now) p.1 p.2
    (read_fault c.args.bytes.now c.loop-number.number-iterator c.next.new.self c.in-Some.number c.in-Some.line.now c.loop-number.catalogue
    c.loop-number.invariant next c.in_err-catalogue.field-0.0 c.in_err-catalogue.ensures)

pub returns : goal.returns
returns c = read_all c.args.bytes.now c.loop-number.number-iterator c.loop-number.catalogue c.loop-number.invariant c.in-None.ensures.steps.0
