-- The days on which a feature is shown, by its attributes.
use Rattle.std.specs.Prelude.{◌≡◌, ℕ, Bool, true, ◌&&◌, List, Option, Some, None, option_and_then}
use Rattle.std.specs.FinMap as map
use Rattle.chart_model.specs.Attrs.{Attrs}
use Rattle.date_display.specs.declared.date.Date.{Date}
use Rattle.date_display.specs.Days.{IsUpTo, IsInSeason, is_up_to, is_in_season, month_day_of}
use Rattle.date_display.specs.Texts.{SpellsDates, dates_in}
use Rattle.date_display.specs.declared.dates.Dates.{Dates}
use Rattle.date_display.specs.declared.month_day.MonthDay.{MonthDay}
use Rattle.date_display.specs.declared.dates.Dates.TheVariants.{Dated, Yearly}

-- the text of the attribute names these dates
abbrev pub IsNamed : Attrs → ℕ → Dates → Type 0
IsNamed attrs code dates = (text : List ℕ) × (map.get attrs code ≡ Some text) × SpellsDates text dates

-- not before the first day of a date, a month or a year, where the attribute names one
abbrev pub IsBegun : Attrs → ℕ → Date → Type 0
IsBegun attrs code day = (first last : Date) → IsNamed attrs code (Dated first last) → IsUpTo first day

-- not after the last day of a date, a month or a year, where the attribute names one
abbrev pub IsNotOver : Attrs → ℕ → Date → Type 0
IsNotOver attrs code day = (first last : Date) → IsNamed attrs code (Dated first last) → IsUpTo day last

-- from the first day of the start to the last of the end, where both are days or months of every year
abbrev pub IsInPeriod : Attrs → ℕ → ℕ → Date → Type 0
IsInPeriod attrs start end day =
    (first start_last end_first last : MonthDay) → IsNamed attrs start (Yearly first start_last)
    → IsNamed attrs end (Yearly end_first last) → IsInSeason first last (month_day_of day)

-- by DATSTA (86) and DATEND (85), and by PERSTA (119) and PEREND (118)
pub record IsShownOn (day : Date) (attrs : Attrs) : Type 0 where
  pub begun : IsBegun attrs 86 day
  pub not_over : IsNotOver attrs 85 day
  pub period_begun : IsBegun attrs 119 day
  pub period_not_over : IsNotOver attrs 118 day
  pub in_period : IsInPeriod attrs 119 118 day

-- ---- as a function

-- what the text of an attribute names
abbrev pub dates_at : Attrs → ℕ → Option Dates
dates_at attrs code = option_and_then dates_in (map.get attrs code)

-- not before the first day of a date, a month or a year
abbrev pub is_begun : Option Dates → Date → Bool
is_begun None day = true
is_begun (Some (Dated first last)) day = is_up_to first day
is_begun (Some (Yearly first last)) day = true

-- not after the last day of a date, a month or a year
abbrev pub is_not_over : Option Dates → Date → Bool
is_not_over None day = true
is_not_over (Some (Dated first last)) day = is_up_to day last
is_not_over (Some (Yearly first last)) day = true

-- from the first day of the start to the last of the end, where both are days of every year
abbrev pub is_in_period : Option Dates → Option Dates → Date → Bool
is_in_period (Some (Yearly first _)) (Some (Yearly _ last)) day = is_in_season first last (month_day_of day)
is_in_period _ _ day = true

unfoldable pub is_shown_on : Date → Attrs → Bool
is_shown_on day attrs =
    is_begun (dates_at attrs 86) day
    && (is_not_over (dates_at attrs 85) day
    && (is_begun (dates_at attrs 119) day
    && (is_not_over (dates_at attrs 118) day
    && is_in_period (dates_at attrs 119) (dates_at attrs 118) day)))
