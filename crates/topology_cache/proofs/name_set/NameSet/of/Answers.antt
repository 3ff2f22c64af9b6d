use Rattle.chart_model.proofs.PageBlocks.{entry-alone}
use Rattle.topology_cache.proofs.name_set.NameSet.of.Goals as goal

pub returns : goal.returns
returns c = entry-alone c.args.name tt
