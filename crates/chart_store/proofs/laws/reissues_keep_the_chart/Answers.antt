use Rattle.chart_store.proofs.Reissuing.{reissue-loaded}
use Rattle.chart_store.proofs.laws.reissues_keep_the_chart.Goals as goal

pub returns : goal.returns
returns c = reissue-loaded
