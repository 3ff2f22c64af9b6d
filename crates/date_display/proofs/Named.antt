-- What texts of dates name, as it is spelled.
use Rattle.std.proofs.Common.{◌≡◌, ℕ, ◌<◌, true, false, cond, eqb, ◌&&◌, List, [], ◌∷◌, ◌++◌, length, take, drop, lit<}
use Rattle.std.proofs.Common.{Option, Some, refl, sym, ap, ◌∙◌, subst, inl, inr, arith, length-append}
use Rattle.std.specs.Prelude.{ℤ, pos, option_map, option_and_then}
use Rattle.std.specs.Char.{is_ascii_digit}
use Rattle.std.specs.Str.{all_ascii_digits}
use Rattle.std.proofs.lemmas.Bool.{eqb-true, and_parts, false_from_ne_true, true≢false}
use Rattle.std.proofs.lemmas.List.{take-append-drop, append-nil}
use Rattle.std.proofs.lemmas.Option.{option_and_then_some}
use Rattle.common_lemmas.proofs.Choices.{chosen, map_some}
use Rattle.common_lemmas.proofs.Digits.{test_from_AllDigits}
use Rattle.date_display.specs.Calendar.{IsDay}
use Rattle.date_display.specs.Days.{date_if, last_of_month, month_day_of}
use Rattle.date_display.specs.declared.date.Date.{Date}
use Rattle.date_display.specs.declared.month_day.MonthDay.{MonthDay}
use Rattle.date_display.specs.declared.dates.Dates.{Dates}
use Rattle.date_display.specs.declared.dates.Dates.TheVariants.{Dated, Yearly}
use Rattle.date_display.specs.Texts.{SpellsNumber, SpellsYear, SpellsDated, SpellsYearlyDay, SpellsYearlyMonth, SpellsYearly}
use Rattle.date_display.specs.Texts.{SpellsDates, digits_in, date_in, first_of_month_in, whole_year, dated_in, yearly_in, dates_in}
use Rattle.date_display.proofs.Calendars.{date_there}
use Rattle.date_display.proofs.Spelled.{number_found, number_again, day_found, front, behind, date_in_found, date_in_again}
use Rattle.date_display.proofs.Spelled.{month_found, month_again, day_long, month_long}

-- ---- texts of dates

year_at : (text : List ℕ) (year : ℤ) → SpellsNumber 4 text year → IsDay year (pos 1) (pos 1)
    → SpellsYear text (record { year = year; month = pos 1; day = pos 1 }) (record { year = year; month = pos 12; day = pos 31 })
year_at text year y is = record { year = y; exists = is; begins = refl; ends = refl }

year_found : (text : List ℕ) (dates : Dates) → option_and_then whole_year (digits_in 4 text) ≡ Some dates
    → SpellsDates text dates
year_found text dates e =
    option_and_then_some whole_year (digits_in 4 text) dates e (λ year y e1.
    option_and_then_some (λ first. option_map (λ last. Dated first last) (date_if year (pos 12) (pos 31)))
    (date_if year (pos 1) (pos 1)) dates e1 (λ first f e2.
    let m = map_some (λ last. Dated first last) (date_if year (pos 12) (pos 31)) dates e2 in
    let begin = day_found year (pos 1) (pos 1) first f in
    let end = day_found year (pos 12) (pos 31) m.0 m.1 in
    let OfFirst : Date → Type 0 = λ found. SpellsYear text found m.0 in
    let OfLast : Date → Type 0 = λ found. SpellsYear text (record { year = year; month = pos 1; day = pos 1 }) found in
    subst (λ found. SpellsDates text found) m.2
    (inr (inr (subst OfFirst begin.1 (subst OfLast end.1 (year_at text year (number_found 4 text year y) begin.0)))))))

pub dated_found : (text : List ℕ) (dates : Dates) → dated_in text ≡ Some dates → SpellsDates text dates
unfolding dated_in
dated_found text dates e =
    elim (chosen (eqb (length text) 8) (option_map (λ day. Dated day day) (date_in text)) (cond (eqb (length text) 6)
    (option_map (λ first. Dated first (last_of_month first)) (first_of_month_in text))
    (option_and_then whole_year (digits_in 4 text))) (Some dates) e) [
      | inl h ↦
          let m = map_some (λ day. Dated day day) (date_in text) dates h.1 in
          subst (λ found. SpellsDates text found) m.2 (inl (date_in_found text m.0 m.1, refl))
      | inr h ↦ elim (chosen (eqb (length text) 6) (option_map (λ first. Dated first (last_of_month first)) (first_of_month_in text))
          (option_and_then whole_year (digits_in 4 text)) (Some dates) h.1) [
            | inl k ↦
                let m = map_some (λ first. Dated first (last_of_month first)) (first_of_month_in text) dates k.1 in
                subst (λ found. SpellsDates text found) m.2 (inr (inl (month_found text m.0 m.1)))
            | inr k ↦ year_found text dates k.1
          ]
    ]

yearly_day_at : (rest : List ℕ) (month day : ℤ) → SpellsNumber 2 (take 2 rest) month → SpellsNumber 2 (drop 2 rest) day
    → IsDay (pos 2000) month day → SpellsYearlyDay (45 ∷ 45 ∷ rest) (record { month = month; day = day })
yearly_day_at rest month day m d is = record {
  month_text = take 2 rest;
  day_text = drop 2 rest;
  parts = ap (λ (l : List ℕ). 45 ∷ 45 ∷ l) (sym (take-append-drop 2 rest));
  month = m;
  day = d;
  exists = is;
}

yearly_month_at : (rest : List ℕ) (month : ℤ) → SpellsNumber 2 rest month → IsDay (pos 2000) month (pos 1)
    → SpellsYearlyMonth (45 ∷ 45 ∷ rest) (record { month = month; day = pos 1 }) (record { month = month; day = pos 31 })
yearly_month_at rest month m is = record {
  month_text = rest;
  parts = refl;
  month = m;
  exists = is;
  begins = refl;
  ends = refl;
}

abbrev day_of_year : ℤ → ℤ → Option Dates
day_of_year month day = option_map (λ found. Yearly (month_day_of found) (month_day_of found)) (date_if (pos 2000) month day)

abbrev month_of_year : ℤ → Option Dates
month_of_year month =
    option_map (λ found. Yearly (month_day_of found) (record { month = month; day = pos 31 })) (date_if (pos 2000) month (pos 1))

day_of_year_found : (rest : List ℕ) (month day : ℤ) (dates : Dates) → SpellsNumber 2 (take 2 rest) month
    → SpellsNumber 2 (drop 2 rest) day → day_of_year month day ≡ Some dates → SpellsDates (45 ∷ 45 ∷ rest) dates
day_of_year_found rest month day dates m d e =
    let k = map_some (λ found. Yearly (month_day_of found) (month_day_of found)) (date_if (pos 2000) month day) dates e in
    let found = day_found (pos 2000) month day k.0 k.1 in
    let Named : Date → Type 0 = λ date. SpellsDates (45 ∷ 45 ∷ rest) (Yearly (month_day_of date) (month_day_of date)) in
    subst (λ other. SpellsDates (45 ∷ 45 ∷ rest) other) k.2
    (subst Named found.1 (inl (yearly_day_at rest month day m d found.0, refl)))

month_of_year_found : (rest : List ℕ) (month : ℤ) (dates : Dates) → SpellsNumber 2 rest month
    → month_of_year month ≡ Some dates → SpellsDates (45 ∷ 45 ∷ rest) dates
month_of_year_found rest month dates m e =
    let k = map_some (λ found. Yearly (month_day_of found) (record { month = month; day = pos 31 })) (date_if (pos 2000) month (pos 1)) dates e in
    let found = day_found (pos 2000) month (pos 1) k.0 k.1 in
    let Named : Date → Type 0 = λ date. SpellsDates (45 ∷ 45 ∷ rest) (Yearly (month_day_of date) (record { month = month; day = pos 31 })) in
    subst (λ other. SpellsDates (45 ∷ 45 ∷ rest) other) k.2
    (subst Named found.1 (inr (yearly_month_at rest month m found.0)))

pub yearly_found : (rest : List ℕ) (dates : Dates) → yearly_in rest ≡ Some dates → SpellsDates (45 ∷ 45 ∷ rest) dates
unfolding yearly_in
yearly_found rest dates e =
    elim (chosen (eqb (length rest) 4)
    (option_and_then (λ month. option_and_then (λ day. day_of_year month day) (digits_in 2 (drop 2 rest))) (digits_in 2 (take 2 rest)))
    (option_and_then (λ month. month_of_year month) (digits_in 2 rest)) (Some dates) e) [
      | inl h ↦
          option_and_then_some (λ month. option_and_then (λ day. day_of_year month day) (digits_in 2 (drop 2 rest)))
          (digits_in 2 (take 2 rest)) dates h.1
          (λ month m e1. option_and_then_some (λ day. day_of_year month day) (digits_in 2 (drop 2 rest)) dates e1
          (λ day d e2. day_of_year_found rest month day dates (number_found 2 (take 2 rest) month m)
          (number_found 2 (drop 2 rest) day d) e2))
      | inr h ↦
          option_and_then_some (λ month. month_of_year month) (digits_in 2 rest) dates h.1
          (λ month m e1. month_of_year_found rest month dates (number_found 2 rest month m) e1)
    ]

pub dates_found : (text : List ℕ) (dates : Dates) → dates_in text ≡ Some dates → SpellsDates text dates
unfolding dates_in
dates_found [] dates e = dated_found [] dates e
dates_found (x ∷ []) dates e = dated_found (x ∷ []) dates e
dates_found (x ∷ y ∷ rest) dates e =
    elim (chosen (eqb x 45 && eqb y 45) (yearly_in rest) (dated_in (x ∷ y ∷ rest)) (Some dates) e) [
      | inl h ↦
          let p = and_parts (eqb x 45) (eqb y 45) h.0 in
          let At : ℕ → ℕ → Type 0 = λ a b. SpellsDates (a ∷ b ∷ rest) dates in
          subst (λ (a : ℕ). At a y) (sym (eqb-true x 45 p.0))
          (subst (λ (b : ℕ). At 45 b) (sym (eqb-true y 45 p.1)) (yearly_found rest dates h.1))
      | inr h ↦ dated_found (x ∷ y ∷ rest) dates h.1
    ]

-- ---- and back

year_again : (text : List ℕ) (first last : Date) → SpellsYear text first last
    → option_and_then whole_year (digits_in 4 text) ≡ Some (Dated first last)
year_again text first last is =
    let end : IsDay first.year (pos 12) (pos 31) = record {
      year_in = is.exists.year_in;
      month_in = (omega arith, omega arith);
      day_in = (omega arith, omega arith);
    } in
    rw (
      number_again 4 text first.year is.year,
      date_there first.year (pos 1) (pos 1) is.exists,
      date_there first.year (pos 12) (pos 31) end,
    )
    (ap (λ (date : Date). Some (Dated date (record { year = first.year; month = pos 12; day = pos 31 }))) (sym is.begins)
    ∙ ap (λ (date : Date). Some (Dated first date)) (sym is.ends))

dated_again : (text : List ℕ) (first last : Date) → SpellsDated text first last → dated_in text ≡ Some (Dated first last)
unfolding dated_in
dated_again text first last (inl is) =
    let long : length text ≡ 8 = day_long text first is.0 in
    rw (long, date_in_again text first is.0) (ap (λ (date : Date). Some (Dated first date)) (sym is.1))
dated_again text first last (inr (inl is)) =
    let long : length text ≡ 6 = month_long text first last is in
    let again = month_again text first last is in
    rw (long, again.0) (ap (λ (date : Date). Some (Dated first date)) again.1)
dated_again text first last (inr (inr is)) =
    let long : length text ≡ 4 = is.year.long in
    rw long (year_again text first last is)

yearly_day_again : (a b : List ℕ) (first last : MonthDay) → SpellsNumber 2 a first.month → SpellsNumber 2 b first.day
    → IsDay (pos 2000) first.month first.day → last ≡ first → yearly_in (a ++ b) ≡ Some (Yearly first last)
unfolding yearly_in
yearly_day_again a b first last m d is e =
    let long : length (a ++ b) ≡ 4 = length-append a b ∙ omega (arith, m.long, d.long) in
    rw (
      long,
      front 2 a b m.long,
      behind 2 a b m.long,
      number_again 2 a first.month m,
      number_again 2 b first.day d,
      date_there (pos 2000) first.month first.day is,
    )
    (ap (λ (pair : MonthDay). Some (Yearly first pair)) (sym e))

yearly_month_again : (a : List ℕ) (first last : MonthDay) → SpellsNumber 2 a first.month
    → IsDay (pos 2000) first.month (pos 1) → first.day ≡ pos 1
    → ◌≡◌ {A = MonthDay} last (record { month = first.month; day = pos 31 }) → yearly_in a ≡ Some (Yearly first last)
unfolding yearly_in
yearly_month_again a first last m is begins ends =
    let long : length a ≡ 2 = m.long in
    rw (long, number_again 2 a first.month m, date_there (pos 2000) first.month (pos 1) is)
    (ap (λ (day : ℤ). Some (Yearly (record { month = first.month; day = day }) (record { month = first.month; day = pos 31 }))) (sym begins)
    ∙ ap (λ (pair : MonthDay). Some (Yearly first pair)) (sym ends))

yearly_again : (text : List ℕ) (first last : MonthDay) → SpellsYearly text first last → dates_in text ≡ Some (Yearly first last)
unfolding dates_in
yearly_again text first last (inl is) =
    rw is.0.parts (yearly_day_again is.0.month_text is.0.day_text first last is.0.month is.0.day is.0.exists is.1)
yearly_again text first last (inr is) =
    rw is.parts (yearly_month_again is.month_text first last is.month is.exists is.begins is.ends)

-- a text that begins with a digit begins with no dash
no_dash : (x : ℕ) (xs digits more : List ℕ) (count : ℕ) (number : ℤ) → x ∷ xs ≡ digits ++ more → 0 < count
    → SpellsNumber count digits number → eqb x 45 ≡ false
no_dash x xs [] more count number e some is = absurd (let long = is.long in omega arith)
no_dash x xs (d ∷ ds) more count number e some is =
    let same : x ≡ d = cc in
    let digit = and_parts (is_ascii_digit d) (all_ascii_digits ds) (test_from_AllDigits (d ∷ ds) is.digits) in
    false_from_ne_true _ (λ dash. true≢false (sym digit.0 ∙ ap is_ascii_digit (sym same ∙ eqb-true x 45 dash)))

begins_with_digit : (x : ℕ) (xs : List ℕ) (first last : Date) → SpellsDated (x ∷ xs) first last → eqb x 45 ≡ false
begins_with_digit x xs first last (inl is) =
    no_dash x xs is.0.year_text (is.0.month_text ++ is.0.day_text) 4 first.year is.0.parts (lit< tt) is.0.year
begins_with_digit x xs first last (inr (inl is)) =
    no_dash x xs is.year_text is.month_text 4 first.year is.parts (lit< tt) is.year
begins_with_digit x xs first last (inr (inr is)) =
    no_dash x xs (x ∷ xs) [] 4 first.year (sym (append-nil (x ∷ xs))) (lit< tt) is.year

dated_in_dates : (text : List ℕ) (first last : Date) → SpellsDated text first last → dates_in text ≡ Some (Dated first last)
unfolding dates_in
dated_in_dates [] first last is = dated_again [] first last is
dated_in_dates (x ∷ []) first last is = dated_again (x ∷ []) first last is
dated_in_dates (x ∷ y ∷ rest) first last is =
    rw (begins_with_digit x (y ∷ rest) first last is) (dated_again (x ∷ y ∷ rest) first last is)

pub dates_again : (text : List ℕ) (dates : Dates) → SpellsDates text dates → dates_in text ≡ Some dates
dates_again text (Dated first last) is = dated_in_dates text first last is
dates_again text (Yearly first last) is = yearly_again text first last is
