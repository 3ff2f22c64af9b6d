use Rattle.std.proofs.lemmas.Result.{err_from_is_err_and}
use Rattle.page_parts.specs.Lists.{items_at}
use Rattle.page_parts.proofs.ListsRead.{items_all, items_fail, items_more}
use Rattle.page_parts.proofs.lists.read_items.Goals as goal

pub returns-in_err-item : goal.returns-in_err-item
returns-in_err-item g c =
    let p = err_from_is_err_and c.from_residual.result c.from_residual.ensures.1 in
    let item = g.P.Part.part_at in
    rw (p.1, p.2) (items_fail item c.in_err-item.field-0.0 c.loop.items.items c.args.count c.loop.counter c.loop.rest.now (items_at item c.args.count c.args.bytes.now) c.loop-test.true c.in_err-item.ensures c.loop.invariant)

pub loop-preserved : goal.loop-preserved
loop-preserved g c =
    let item = g.P.Part.part_at in
    rw c.in_ok-push.ensures.items (items_more item c.loop.items.items c.args.count c.loop.counter c.loop.rest.now c.in_ok-item.item c.in_ok-item.after.now (items_at item c.args.count c.args.bytes.now) c.loop-test.true c.in_ok-item.ensures c.loop.invariant)

pub returns : goal.returns
returns g c =
    let item = g.P.Part.part_at in
    items_all item c.loop.items.items c.args.count c.loop.counter c.loop.rest.now (items_at item c.args.count c.args.bytes.now) c.loop-test.false c.loop.invariant
