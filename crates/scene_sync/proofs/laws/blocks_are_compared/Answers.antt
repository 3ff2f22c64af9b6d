use Rattle.scene_sync.proofs.Blocks.{blocks}
use Rattle.scene_sync.proofs.laws.blocks_are_compared.Goals as goal

pub returns : goal.returns
returns c = λ one other. blocks one other
