-- A walk over the cells, with the features of their charts.
use Rattle.std.proofs.Common.{◌≡◌, Option, ap, arith, rules, subst}
use Rattle.std.specs.FinMap as finite
use Rattle.chart_model.specs.Cell.{CellValue}
use Rattle.topology_cache.specs.Users.{AreUsersOf}
use Rattle.session_core.specs.Kept.{IsRenewed}
use Rattle.session_core.proofs.Keeping.{charted, charted-goes, walk-begins, walk-ends, walk-goes}
use Rattle.session_core.proofs.upkeep.all_users.Goals as goal

pub loop-key-init : goal.loop-key-init
loop-key-init g c =
    let all : c.into_iter-key-iterator.result ≡ finite.entries c.args.cells.now = search rules in
    record {
      walked = walk-begins AreUsersOf c.args.cells.now _ _ c.new-users.ensures all;
      counted = omega (arith, ap charted all);
    }

pub loop-key-preserved : goal.loop-key-preserved
loop-key-preserved g c = record {
  walked = walk-goes AreUsersOf c.args.cells.now c.loop-key.users c.make_users.new.users c.in-Some.key.now c.in-Some.holding.now _ _
      c.loop-key.invariant.walked c.in-Some.ensures.steps
      (subst (λ (o : Option CellValue). IsRenewed AreUsersOf c.in-Some.key.now o c.loop-key.users c.make_users.new.users) c.as_ref.ensures.value
      c.in_ok-make_users.ensures.renewed);
  counted = charted-goes c.loop-key.steps c.make_users.new.steps _ c.in-Some.key.now c.in-Some.holding.now _ _ _
      c.in-Some.ensures.steps c.as_ref.ensures.value c.loop-key.invariant.counted c.make_users.ensures.at_most;
}

pub returns-clause-kept : goal.returns-clause-kept
returns-clause-kept g c = walk-ends AreUsersOf c.args.cells.now c.loop-key.users _ c.loop-key.invariant.walked c.in-None.ensures.steps.0
