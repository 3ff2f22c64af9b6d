use Rattle.std.proofs.Common.{refl}
use Rattle.update_sequence.specs.Built.{built}
use Rattle.update_sequence.specs.Draft.{finished}
use Rattle.update_sequence.proofs.laws.drafts_build_charts.Goals as goal

pub returns : goal.returns
unfolding built finished
returns c = λ chart dataset. refl
