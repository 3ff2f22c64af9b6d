use Rattle.chart_store.proofs.Staying.{kept-read, kept-stays}
use Rattle.chart_store.proofs.Submitting.{kept-stands}
use Rattle.chart_store.proofs.images_laws.kept_stores_are_read.Goals as goal

pub returns-clause-read : goal.returns-clause-read
returns-clause-read g c = λ desk store images kept left.
    kept-read _ _ store kept c.commands_are_spelled.ensures images left

pub returns-clause-stands : goal.returns-clause-stands
returns-clause-stands g c = λ desk store images kept stood left. kept-stands _ _ store kept stood images left

pub returns-clause-stays : goal.returns-clause-stays
returns-clause-stays g c = λ desk next store kept same no_more. kept-stays _ _ store kept _ _ same no_more
