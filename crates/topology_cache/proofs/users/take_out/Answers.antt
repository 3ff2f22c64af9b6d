use Rattle.chart_model.proofs.Names.{name_cmp-total, name_cmp-IsAntisymmetric}
use Rattle.chart_model.proofs.Trees.{remove-tree}
use Rattle.topology_cache.proofs.users.take_out.Goals as goal

pub returns : goal.returns
returns c = remove-tree name_cmp-total name_cmp-IsAntisymmetric _ _ c.args.edge c.remove.ensures.updates.0
