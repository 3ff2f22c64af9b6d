use Rattle.std.proofs.Common.{sym, ◌∙◌}
use Rattle.std.proofs.lemmas.Bool.{false≢true}
use Rattle.depth_values.proofs.Asking.{group_apart}
use Rattle.depth_values.proofs.asked.push_group.Goals as goal

pub returns : goal.returns
returns c =
    group_apart c.args.points.now c.args.extents.now c.points_are_inside.ensures c.insides_are_in_bounds.ensures c.args.group.now c.args.bounds c.args.held.now.items c.requires.round
    c.requires.within (λ m. false≢true (sym c.if-meets.false ∙ c.meets.ensures.1 m))
