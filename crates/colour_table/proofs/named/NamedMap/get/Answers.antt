use Rattle.std.proofs.Common.{◌∙◌}
use Rattle.colour_table.proofs.NamedTables.{get-seen}
use Rattle.colour_table.proofs.named.NamedMap.get.Goals as goal

pub returns : goal.returns
returns g c = c.get.ensures.value ∙ get-seen _ _ _ c.self.view_is
