use Rattle.std.proofs.Common.{rules}
use Rattle.draw_items.proofs.Pushed.{joined_last}
use Rattle.hazard_symbology.proofs.edges.push_area.Goals as goal

pub returns : goal.returns
returns c = search (rules, joined_last)
