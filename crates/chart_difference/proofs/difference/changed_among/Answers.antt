use Rattle.std.specs.Option.{option_copied}
use Rattle.chart_difference.specs.Difference.{AreChanged}
use Rattle.chart_difference.proofs.Names.{changed-among, kept-are}
use Rattle.chart_difference.proofs.difference.changed_among.Goals as goal

pub returns : goal.returns
returns c =
    kept-are (AreChanged (option_copied c.args.old) (option_copied c.args.new)) c.keep_changed.result c.keep_changed.ensures
    (rw c.into_vec.ensures
    (changed-among (option_copied c.args.old) (option_copied c.args.new) c.args.names.items c.in_order_once.result
    c.requires c.in_order_once.ensures.rising c.in_order_once.ensures.same))
