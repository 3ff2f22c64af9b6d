use Rattle.topology_cache.proofs.UseLists.{nobody, add-more}
use Rattle.topology_cache.proofs.user_rows.rows_of.Goals as goal

pub loop-one-init : goal.loop-one-init
loop-one-init c edge name = nobody c.new-users.result edge name c.new-users.ensures

pub loop-one-preserved : goal.loop-one-preserved
loop-one-preserved c =
    add-more c.args.uses.now c.loop-one.users c.add.new.self c.loop-one.one-index _
    c.loop-one-test.true c.loop-one.invariant c.in_ok-add.ensures
