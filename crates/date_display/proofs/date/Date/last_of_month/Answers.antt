use Rattle.std.proofs.Common.{◌≡◌, ap, sym, subst, ◌∙◌, w8, w16, of_z, to_z}
use Rattle.std.specs.Prelude.{ℤ}
use Rattle.std.proofs.lemmas.Int.{to_z-of_z}
use Rattle.jiff.specs.Words.{IsDate}
use Rattle.date_display.specs.Calendar.{days_of_month}
use Rattle.date_display.specs.declared.date.Date.{Date}
use Rattle.date_display.proofs.Calendars.{date_from_day, month_days, year_fits, month_fits, length_fits, kept_date, kept_day}
use Rattle.date_display.proofs.date.Date.last_of_month.Goals as goal

pub date-requires : goal.date-requires
date-requires c =
    let date = c.args.self in
    let There : Date → Type 0 = λ other. IsDate other.year other.month other.day in
    subst There (sym (kept_day date c.requires)) (date_from_day date.year date.month date.day c.requires)

pub returns : goal.returns
returns c =
    let date = c.args.self in
    let year = year_fits date.year date.month date.day c.requires in
    let month = month_fits date.year date.month date.day c.requires in
    let called = c.date.ensures in
    let last : c.days_in_month-day.result ≡ days_of_month date.year date.month =
    c.days_in_month-day.ensures
    ∙ month_days date.year date.month c.date.result.year c.date.result.month
    (called.0 ∙ to_z-of_z w16 date.year year) (called.1 ∙ to_z-of_z w8 date.month month) in
    let With : ℤ → Date = λ z. record {
      year = to_z w16 (of_z w16 date.year);
      month = to_z w8 (of_z w8 date.month);
      day = to_z w8 (of_z w8 z);
    } in
    ap With last
    ∙ kept_date date.year date.month (days_of_month date.year date.month) year month (length_fits date.year date.month)
