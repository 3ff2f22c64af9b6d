use Rattle.date_display.proofs.Named.{dates_found, dates_again}
use Rattle.date_display.proofs.Spelled.{date_in_found, date_in_again}
use Rattle.date_display.proofs.laws.dates_are_spelled.Goals as goal

pub returns-clause-day : goal.returns-clause-day
returns-clause-day c = λ text date. (date_in_found text date, date_in_again text date)

pub returns-clause-dates : goal.returns-clause-dates
returns-clause-dates c = λ text dates. (dates_found text dates, dates_again text dates)
