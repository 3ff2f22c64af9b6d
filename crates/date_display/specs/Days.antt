-- Days in their order.
use Rattle.std.specs.Prelude.{◌≡◌, Bool, ◌&&◌, ◌||◌, ◌⊎◌, if◌then◌else◌, Option, Some, None}
use Rattle.std.specs.Prelude.{ℤ, int_le, int_lt, ◌≤ℤ◌, ◌<ℤ◌}
use Rattle.std.specs.Ordering.{int_eq}
use Rattle.date_display.specs.Calendar.{is_day, days_of_month}
use Rattle.date_display.specs.declared.date.Date.{Date}
use Rattle.date_display.specs.declared.day.Day.{Day}
use Rattle.date_display.specs.declared.month_day.MonthDay.{MonthDay}

-- a date by its numbers, as other crates name it
abbrev pub DateValue : Type 0
DateValue = Date

-- the numbers of a day
abbrev pub date_of : Day → Date
date_of day = record { year = day.year; month = day.month; day = day.day }

-- the date with these parts, where the calendar has it
abbrev pub date_if : ℤ → ℤ → ℤ → Option Date
date_if year month day =
    if is_day year month day then Some (record { year = year; month = month; day = day }) else None

abbrev pub last_of_month : Date → Date
last_of_month day = record day { day = days_of_month day.year day.month }

abbrev pub month_day_of : Date → MonthDay
month_day_of day = record { month = day.month; day = day.day }

-- a day of the year isn't after another: by its month, then by its day
abbrev pub IsMonthDayUpTo : MonthDay → MonthDay → Type 0
IsMonthDayUpTo a b = (a.month <ℤ b.month) ⊎ ((a.month ≡ b.month) × (a.day ≤ℤ b.day))

-- a day isn't after another: by its year, then by its day of the year
abbrev pub IsUpTo : Date → Date → Type 0
IsUpTo a b = (a.year <ℤ b.year) ⊎ ((a.year ≡ b.year) × IsMonthDayUpTo (month_day_of a) (month_day_of b))

-- from a first day of the year to a last, or, where the first comes later, past the turn of the year
pub record IsInSeason (first last day : MonthDay) : Type 0 where
  pub in_order : IsMonthDayUpTo first last → IsMonthDayUpTo first day × IsMonthDayUpTo day last
  pub over_the_turn : ¬ (IsMonthDayUpTo first last) → IsMonthDayUpTo first day ⊎ IsMonthDayUpTo day last

-- ---- as tests

abbrev pub is_month_day_up_to : MonthDay → MonthDay → Bool
is_month_day_up_to a b = int_lt a.month b.month || (int_eq a.month b.month && int_le a.day b.day)

abbrev pub is_up_to : Date → Date → Bool
is_up_to a b = int_lt a.year b.year || (int_eq a.year b.year && is_month_day_up_to (month_day_of a) (month_day_of b))

abbrev pub is_in_season : MonthDay → MonthDay → MonthDay → Bool
is_in_season first last day =
    if is_month_day_up_to first last then is_month_day_up_to first day && is_month_day_up_to day last
    else is_month_day_up_to first day || is_month_day_up_to day last
