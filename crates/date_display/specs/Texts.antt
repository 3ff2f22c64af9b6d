-- Texts of dates.
use Rattle.std.specs.Prelude.{◌≡◌, ℕ, ◌==◌, ◌&&◌, ◌⊎◌, if◌then◌else◌, ℤ, pos, Option, Some, None, option_map}
use Rattle.std.specs.Prelude.{option_and_then, List, [], ◌∷◌, ◌++◌, length, take, drop}
use Rattle.std.specs.Str.{all_ascii_digits}
use Rattle.std.specs.Str.Parse.{AllDigits, digits_value}
use Rattle.date_display.specs.Calendar.{IsDay, days_of_month}
use Rattle.date_display.specs.Days.{date_if, last_of_month, month_day_of}
use Rattle.date_display.specs.declared.date.Date.{Date}
use Rattle.date_display.specs.declared.month_day.MonthDay.{MonthDay}
use Rattle.date_display.specs.declared.dates.Dates.{Dates}
use Rattle.date_display.specs.declared.dates.Dates.TheVariants.{Dated, Yearly}

-- so many digits, which spell the number
pub record SpellsNumber (count : ℕ) (text : List ℕ) (number : ℤ) : Type 0 where
  pub long : length text ≡ count
  pub digits : AllDigits 10 text
  pub value : pos (digits_value 10 text) ≡ number

-- ---- dates, months and years, from 0001 to 9999

-- `CCYYMMDD`
pub record SpellsDay (text : List ℕ) (date : Date) : Type 0 where
  pub year_text : List ℕ
  pub month_text : List ℕ
  pub day_text : List ℕ
  pub parts : text ≡ year_text ++ (month_text ++ day_text)
  pub year : SpellsNumber 4 year_text date.year
  pub month : SpellsNumber 2 month_text date.month
  pub day : SpellsNumber 2 day_text date.day
  pub exists : IsDay date.year date.month date.day

-- `CCYYMM`: from the first to the last day of the month
pub record SpellsMonth (text : List ℕ) (first last : Date) : Type 0 where
  pub year_text : List ℕ
  pub month_text : List ℕ
  pub parts : text ≡ year_text ++ month_text
  pub year : SpellsNumber 4 year_text first.year
  pub month : SpellsNumber 2 month_text first.month
  pub begins : first.day ≡ pos 1
  pub exists : IsDay first.year first.month first.day
  pub ends : last ≡ record { year = first.year; month = first.month; day = days_of_month first.year first.month }

-- `CCYY`: from the first to the last day of the year
pub record SpellsYear (text : List ℕ) (first last : Date) : Type 0 where
  pub year : SpellsNumber 4 text first.year
  pub exists : IsDay first.year (pos 1) (pos 1)
  pub begins : first ≡ record { year = first.year; month = pos 1; day = pos 1 }
  pub ends : last ≡ record { year = first.year; month = pos 12; day = pos 31 }

abbrev pub SpellsDated : List ℕ → Date → Date → Type 0
SpellsDated text first last =
    (SpellsDay text first × (last ≡ first)) ⊎ (SpellsMonth text first last ⊎ SpellsYear text first last)

-- ---- days and months of every year

-- `--MMDD`, a day that the month has in a leap year
pub record SpellsYearlyDay (text : List ℕ) (pair : MonthDay) : Type 0 where
  pub month_text : List ℕ
  pub day_text : List ℕ
  pub parts : text ≡ 45 ∷ 45 ∷ (month_text ++ day_text)
  pub month : SpellsNumber 2 month_text pair.month
  pub day : SpellsNumber 2 day_text pair.day
  pub exists : IsDay (pos 2000) pair.month pair.day

-- `--MM`, from its first day to the 31st
pub record SpellsYearlyMonth (text : List ℕ) (first last : MonthDay) : Type 0 where
  pub month_text : List ℕ
  pub parts : text ≡ 45 ∷ 45 ∷ month_text
  pub month : SpellsNumber 2 month_text first.month
  pub exists : IsDay (pos 2000) first.month (pos 1)
  pub begins : first.day ≡ pos 1
  pub ends : last ≡ record { month = first.month; day = pos 31 }

abbrev pub SpellsYearly : List ℕ → MonthDay → MonthDay → Type 0
SpellsYearly text first last = (SpellsYearlyDay text first × (last ≡ first)) ⊎ SpellsYearlyMonth text first last

-- the text is in one of the forms, and names these dates
abbrev pub SpellsDates : List ℕ → Dates → Type 0
SpellsDates text (Dated first last) = SpellsDated text first last
SpellsDates text (Yearly first last) = SpellsYearly text first last

-- ---- as functions

unfoldable pub digits_in : ℕ → List ℕ → Option ℤ
digits_in count text =
    if (length text == count) && all_ascii_digits text then Some (pos (digits_value 10 text)) else None

unfoldable pub date_in : List ℕ → Option Date
date_in text =
    option_and_then (λ year. option_and_then (λ month. option_and_then (λ day. date_if year month day)
    (digits_in 2 (drop 6 text))) (digits_in 2 (take 2 (drop 4 text)))) (digits_in 4 (take 4 text))

unfoldable pub first_of_month_in : List ℕ → Option Date
first_of_month_in text =
    option_and_then (λ year. option_and_then (λ month. date_if year month (pos 1)) (digits_in 2 (drop 4 text)))
    (digits_in 4 (take 4 text))

abbrev pub whole_year : ℤ → Option Dates
whole_year year =
    option_and_then (λ first. option_map (λ last. Dated first last) (date_if year (pos 12) (pos 31)))
    (date_if year (pos 1) (pos 1))

unfoldable pub dated_in : List ℕ → Option Dates
dated_in text =
    if length text == 8 then option_map (λ day. Dated day day) (date_in text)
    else (if length text == 6 then option_map (λ first. Dated first (last_of_month first)) (first_of_month_in text)
    else option_and_then whole_year (digits_in 4 text))

unfoldable pub yearly_in : List ℕ → Option Dates
yearly_in text =
    if length text == 4
    then option_and_then (λ month. option_and_then (λ day.
    option_map (λ found. Yearly (month_day_of found) (month_day_of found)) (date_if (pos 2000) month day))
    (digits_in 2 (drop 2 text))) (digits_in 2 (take 2 text))
    else option_and_then (λ month.
    option_map (λ found. Yearly (month_day_of found) (record { month = month; day = pos 31 }))
    (date_if (pos 2000) month (pos 1)))
    (digits_in 2 text)

-- what a text names, where it is in one of the forms
unfoldable pub dates_in : List ℕ → Option Dates
dates_in [] = dated_in []
dates_in (first ∷ []) = dated_in (first ∷ [])
dates_in (first ∷ second ∷ rest) =
    if (first == 45) && (second == 45) then yearly_in rest else dated_in (first ∷ second ∷ rest)
