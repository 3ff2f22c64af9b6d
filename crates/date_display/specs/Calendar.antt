-- The Gregorian calendar, from the year 1 to the year 9999.
use Rattle.std.specs.Prelude.{◌%◌, Bool, not, ◌&&◌, ◌||◌, ◌==◌, if◌then◌else◌, ℤ, pos, ◌≤ℤ◌, int_le, unsigned_abs}

-- z lies from low to high, both included
abbrev pub IsFromTo : ℤ → ℤ → ℤ → Type 0
IsFromTo low high z = (low ≤ℤ z) × (z ≤ℤ high)

-- a leap year: every fourth, but of the centuries only every fourth
abbrev pub is_leap_year : ℤ → Bool
is_leap_year year =
    (unsigned_abs year % 4 == 0) && (not (unsigned_abs year % 100 == 0) || (unsigned_abs year % 400 == 0))

-- the days of a month: April, June, September and November have thirty
abbrev pub days_of_month : ℤ → ℤ → ℤ
days_of_month year month =
    let number = unsigned_abs month in
    if number == 2 then (if is_leap_year year then pos 29 else pos 28)
    else (if (number == 4) || (number == 6) || (number == 9) || (number == 11) then pos 30 else pos 31)

-- the calendar has this day
pub record IsDay (year month day : ℤ) : Type 0 where
  pub year_in : IsFromTo (pos 1) (pos 9999) year
  pub month_in : IsFromTo (pos 1) (pos 12) month
  pub day_in : IsFromTo (pos 1) (days_of_month year month) day

-- ---- as a test

abbrev pub is_from_to : ℤ → ℤ → ℤ → Bool
is_from_to low high z = int_le low z && int_le z high

unfoldable pub is_day : ℤ → ℤ → ℤ → Bool
is_day year month day =
    is_from_to (pos 1) (pos 9999) year
    && (is_from_to (pos 1) (pos 12) month && is_from_to (pos 1) (days_of_month year month) day)
