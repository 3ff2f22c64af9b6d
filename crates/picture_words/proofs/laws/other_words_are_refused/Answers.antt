use Rattle.picture_words.proofs.Walks.{nothing, no_catalogue, no_colours, no_file, twice, unasked}
use Rattle.picture_words.proofs.laws.other_words_are_refused.Goals as goal

pub returns-clause-nothing : goal.returns-clause-nothing
returns-clause-nothing c = nothing

pub returns-clause-no_catalogue : goal.returns-clause-no_catalogue
returns-clause-no_catalogue c = no_catalogue

pub returns-clause-no_colours : goal.returns-clause-no_colours
returns-clause-no_colours c = no_colours

pub returns-clause-no_file : goal.returns-clause-no_file
returns-clause-no_file c = no_file

pub returns-clause-twice : goal.returns-clause-twice
returns-clause-twice c = twice

pub returns-clause-unasked : goal.returns-clause-unasked
returns-clause-unasked c = unasked
