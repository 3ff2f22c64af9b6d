use Rattle.std.proofs.Common.{sym, arith}
use Rattle.depth_values.proofs.Asking.{groups_none_yet, groups_next, groups_all}
use Rattle.depth_values.proofs.asked.push_groups.Goals as goal

pub push_group-requires-clause-round : goal.push_group-requires-clause-round
push_group-requires-clause-round c =
    c.requires.each c.group-item.result (c.loop-group.group-index, c.loop-group-test.true, sym c.group-item.is)

pub loop-group-init : goal.loop-group-init
loop-group-init c = groups_none_yet c.args.points.now c.args.extents.now c.args.groups.now c.args.held.now.items

pub loop-group-preserved : goal.loop-group-preserved
loop-group-preserved c =
    groups_next c.args.points.now c.args.extents.now c.args.groups.now c.loop-group.group-index c.group-item.result c.args.held.now.items c.loop-group.held.items
    c.push_group.new.held.items c.loop-group-test.true c.group-item.is c.loop-group.invariant c.in_ok-push_group.ensures

pub returns : goal.returns
returns c =
    groups_all c.args.points.now c.args.extents.now c.args.groups.now c.loop-group.group-index c.args.held.now.items c.loop-group.held.items (omega (arith, c.loop-group-test.false))
    c.loop-group.invariant
