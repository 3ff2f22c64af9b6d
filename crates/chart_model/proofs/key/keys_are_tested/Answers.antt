use Rattle.chart_model.proofs.KeyTests.{Decides-key}
use Rattle.chart_model.proofs.key.keys_are_tested.Goals as goal

pub returns : goal.returns
returns c = λ bytes. Decides-key bytes
