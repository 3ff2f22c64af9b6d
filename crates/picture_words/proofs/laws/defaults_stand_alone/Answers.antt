use Rattle.picture_words.proofs.Walks.{two}
use Rattle.picture_words.proofs.laws.defaults_stand_alone.Goals as goal

pub returns : goal.returns
returns c = two
