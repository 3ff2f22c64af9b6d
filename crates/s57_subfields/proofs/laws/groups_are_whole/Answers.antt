use Rattle.s57_subfields.proofs.Whole.{fields_are_whole}
use Rattle.s57_subfields.proofs.laws.groups_are_whole.Goals as goal

pub returns : goal.returns
returns c = λ layout fields is fits. fields_are_whole layout fields is fits
