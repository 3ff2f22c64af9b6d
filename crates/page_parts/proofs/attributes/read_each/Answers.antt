use Rattle.std.proofs.Common.{sym, ◌∙◌, arith}
use Rattle.std.specs.Ordering.{nat_cmp}
use Rattle.std.specs.Cmp.{nat_cmp_total}
use Rattle.std.proofs.lemmas.Result.{err_from_is_err_and}
use Rattle.page_parts.specs.Attributes.{attribute_at}
use Rattle.page_parts.proofs.RisingRead.{entries_all, entries_begin, entries_fail, entries_more, entries_unordered}
use Rattle.page_parts.proofs.attributes.read_each.Goals as goal

pub returns-in_err-attr : goal.returns-in_err-attr
returns-in_err-attr c =
    let p = err_from_is_err_and c.from_residual.result c.from_residual.ensures.1 in
    rw (p.1, p.2) (entries_fail nat_cmp nat_cmp_total attribute_at c.in_err-attr.field-0.0 c.args.count c.loop.counter c.args.bytes.now c.loop.rest.now c.loop.last c.loop.attrs c.loop-test.true c.in_err-attr.ensures c.loop.invariant)

pub loop-init : goal.loop-init
loop-init c = entries_begin nat_cmp nat_cmp_total attribute_at c.args.count _ c.args.bytes.now c.new-attrs.result (omega arith) c.new-attrs.ensures

pub returns-then-not-is_behind : goal.returns-then-not-is_behind
returns-then-not-is_behind c =
    entries_unordered nat_cmp nat_cmp_total attribute_at c.args.count c.loop.counter c.args.bytes.now c.loop.rest.now c.in_ok-attr.after.now c.loop.last c.loop.attrs c.in_ok-attr.attr.code c.in_ok-attr.attr.value c.loop-test.true c.in_ok-attr.ensures (sym c.is_behind.ensures ∙ c.if-not-is_behind.true) c.loop.invariant

pub loop-preserved : goal.loop-preserved
loop-preserved c =
    rw c.in_ok-set.ensures.ok (entries_more nat_cmp nat_cmp_total attribute_at c.args.count c.loop.counter c.args.bytes.now c.loop.rest.now c.in_ok-attr.after.now c.loop.last c.loop.attrs c.in_ok-attr.attr.code c.in_ok-attr.attr.value c.loop-test.true c.in_ok-attr.ensures (sym c.is_behind.ensures ∙ c.if-not-is_behind.false) c.loop.invariant)

pub returns : goal.returns
returns c = entries_all nat_cmp nat_cmp_total attribute_at c.args.count c.loop.counter c.args.bytes.now c.loop.rest.now c.loop.last c.loop.attrs c.loop-test.false c.loop.invariant
