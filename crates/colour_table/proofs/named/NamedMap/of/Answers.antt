use Rattle.std.proofs.Common.{◌≡◌, ◌∙◌, rules}
use Rattle.std.specs.Vec.Iter.{into_iter_items}
use Rattle.colour_table.proofs.NamedTables.{with_each, with_each-empty}
use Rattle.colour_table.proofs.named.NamedMap.of.Goals as goal

pub loop-name-init : goal.loop-name-init
loop-name-init g c =
    let items : into_iter_items c.into_iter-name-iterator.result ≡ c.args.entries = search rules in
    (λ i. with_each (c.new-named.ensures i) (items i)) ∙ with_each-empty c.args.entries
