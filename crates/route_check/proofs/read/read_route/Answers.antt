use Rattle.std.proofs.lemmas.Result.{err_from_is_err_and}
use Rattle.route_check.specs.Reading.{route_in}
use Rattle.route_check.proofs.Progress.{read_none, read_more, read_fault, read_whole, is_kept, is_counted, failed}
use Rattle.route_check.proofs.read.read_route.Goals as goal

pub loop-line-init : goal.loop-line-init
loop-line-init c = read_none c.args.bytes.now c.new-draft.result c.new-draft.ensures

pub take_line-requires-clause-kept : goal.take_line-requires-clause-kept
take_line-requires-clause-kept c = is_kept c.args.bytes.now c.loop-line.rest.now c.loop-line.draft c.loop-line.number c.loop-line.invariant

pub take_line-requires-clause-counted : goal.take_line-requires-clause-counted
take_line-requires-clause-counted c = is_counted c.args.bytes.now c.loop-line.rest.now c.loop-line.draft c.loop-line.number c.loop-line.invariant

pub returns-in_err-take_line : goal.returns-in_err-take_line
returns-in_err-take_line c =
    let p = err_from_is_err_and c.from_residual.result c.from_residual.ensures.1 in
    failed c.from_residual.result c.in_err-take_line.field-0.0 p.0 (route_in c.args.bytes.now) p.1 p.2
    (read_fault c.args.bytes.now c.loop-line.rest.now c.in-Some.others.now c.in-Some.line.now c.loop-line.draft c.loop-line.number
    c.in_err-take_line.field-0.0 c.loop-line.invariant c.in-Some.ensures.line c.in_err-take_line.ensures)

pub loop-line-preserved : goal.loop-line-preserved
loop-line-preserved c =
    read_more c.args.bytes.now c.loop-line.rest.now c.in-Some.others.now c.in-Some.line.now c.loop-line.draft c.take_line.new.self c.loop-line.number
    c.loop-line.invariant c.in-Some.ensures.line c.in-Some.ensures.shorter c.in_ok-take_line.ensures

pub finish-requires : goal.finish-requires
finish-requires c = is_kept c.args.bytes.now c.loop-line.rest.now c.loop-line.draft c.loop-line.number c.loop-line.invariant

pub returns : goal.returns
returns c =
    read_whole c.args.bytes.now c.loop-line.rest.now c.loop-line.draft c.loop-line.number c.finish.result c.loop-line.invariant
    c.in_default.ensures.none c.finish.ensures
