use Rattle.command_words.proofs.Walks.{shades_set, pattern_set, scale_set}
use Rattle.command_words.proofs.laws.looks_are_set.Goals as goal

pub returns-clause-shades : goal.returns-clause-shades
returns-clause-shades c = shades_set

pub returns-clause-pattern : goal.returns-clause-pattern
returns-clause-pattern c = pattern_set

pub returns-clause-scale : goal.returns-clause-scale
returns-clause-scale c = scale_set
