use Rattle.command_words.proofs.Apart.{stray}
use Rattle.command_words.proofs.Walks.{nothing, no_catalogue, no_table, twice, help, version}
use Rattle.command_words.proofs.laws.other_words_are_refused.Goals as goal

pub returns-clause-nothing : goal.returns-clause-nothing
returns-clause-nothing c = nothing

pub returns-clause-no_catalogue : goal.returns-clause-no_catalogue
returns-clause-no_catalogue c = no_catalogue

pub returns-clause-no_table : goal.returns-clause-no_table
returns-clause-no_table c = no_table

pub returns-clause-twice : goal.returns-clause-twice
returns-clause-twice c = twice

pub returns-clause-help : goal.returns-clause-help
returns-clause-help c = help

pub returns-clause-version : goal.returns-clause-version
returns-clause-version c = version

pub returns-clause-stray : goal.returns-clause-stray
returns-clause-stray c = stray
