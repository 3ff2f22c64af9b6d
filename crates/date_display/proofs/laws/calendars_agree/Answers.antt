use Rattle.date_display.proofs.Calendars.{same_days, day_from_date, date_from_day}
use Rattle.date_display.proofs.laws.calendars_agree.Goals as goal

pub returns-clause-months : goal.returns-clause-months
returns-clause-months c = same_days

pub returns-clause-days : goal.returns-clause-days
returns-clause-days c = λ year month day. (
  λ is. (is.year_in.0, date_from_day year month day is),
  λ is. day_from_date year month day is.1 is.0,
)
