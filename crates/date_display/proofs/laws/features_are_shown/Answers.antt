use Rattle.date_display.proofs.Bounds.{Decides-is_shown_on}
use Rattle.date_display.proofs.laws.features_are_shown.Goals as goal

pub returns : goal.returns
returns c = Decides-is_shown_on
