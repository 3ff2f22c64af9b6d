use Rattle.chart_store.proofs.Reading.{empty-stands, read-holds, stands-read}
use Rattle.chart_store.proofs.images_laws.files_that_stand_are_read.Goals as goal

pub returns-clause-stands : goal.returns-clause-stands
returns-clause-stands c = λ images state h. stands-read c.commands_are_spelled.ensures images state h

pub returns-clause-holds : goal.returns-clause-holds
returns-clause-holds c = λ images state used e. read-holds c.commands_are_spelled.ensures images state used e

pub returns-clause-empty : goal.returns-clause-empty
returns-clause-empty c = empty-stands
