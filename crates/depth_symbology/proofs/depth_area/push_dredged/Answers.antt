use Rattle.std.proofs.Common.{rules}
use Rattle.draw_items.proofs.Pushed.{joined}
use Rattle.depth_symbology.proofs.depth_area.push_dredged.Goals as goal

pub returns-in_ok-push_item-2 : goal.returns-in_ok-push_item-2
returns-in_ok-push_item-2 c = search (rules, joined)
