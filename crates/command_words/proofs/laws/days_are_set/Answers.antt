use Rattle.std.proofs.Common.{◌∙◌, ap}
use Rattle.std.specs.Prelude.{option_map}
use Rattle.date_display.specs.Days.{DateValue}
use Rattle.command_words.specs.Options.{with_day}
use Rattle.command_words.proofs.Walks.{day_set}
use Rattle.command_words.proofs.laws.days_are_set.Goals as goal

pub returns-clause-spelled : goal.returns-clause-spelled
returns-clause-spelled c = λ program catalogue table text day spells.
    day_set program catalogue table text
    ∙ ap (option_map (λ (date : DateValue). with_day catalogue table date))
    ((c.dates_are_spelled.ensures.day text day).1 spells)

pub returns-clause-function : goal.returns-clause-function
returns-clause-function c = day_set
