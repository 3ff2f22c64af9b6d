use Rattle.picture_words.proofs.Walks.{help, version, help_behind, help_unrefused}
use Rattle.picture_words.proofs.laws.texts_are_asked_for.Goals as goal

pub returns-clause-help : goal.returns-clause-help
returns-clause-help c = help

pub returns-clause-version : goal.returns-clause-version
returns-clause-version c = version

pub returns-clause-behind : goal.returns-clause-behind
returns-clause-behind c = help_behind

pub returns-clause-unrefused : goal.returns-clause-unrefused
returns-clause-unrefused c = help_unrefused
