-- What the command is for, and its version, change nothing else.
use Rattle.picture_words.proofs.Building.{versioned_is}
use Rattle.picture_words.proofs.command.versioned.Goals as goal

pub returns : goal.returns
returns c = versioned_is _ _ _ _ _ _ c.new.ensures.app c.about.ensures c.version.ensures
