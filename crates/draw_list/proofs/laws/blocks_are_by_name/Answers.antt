use Rattle.draw_list.proofs.Named.{listed_by_name}
use Rattle.draw_list.proofs.laws.blocks_are_by_name.Goals as goal

pub returns : goal.returns
returns c = listed_by_name
