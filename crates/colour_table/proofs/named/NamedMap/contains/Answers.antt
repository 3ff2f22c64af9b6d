use Rattle.std.proofs.Common.{ap, ◌∙◌}
use Rattle.std.specs.Prelude.{is_some}
use Rattle.colour_table.proofs.NamedTables.{get-seen}
use Rattle.colour_table.proofs.named.NamedMap.contains.Goals as goal

pub returns : goal.returns
returns g c = c.contains_key.ensures ∙ ap is_some (get-seen _ _ _ c.self.view_is)
