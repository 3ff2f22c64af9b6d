use Rattle.std.proofs.Common.{Some, arith, ap, refl, sym, subst, ◌∙◌}
use Rattle.std.proofs.lemmas.Int.{ints}
use Rattle.jiff.specs.Words.{IsDate}
use Rattle.date_display.specs.declared.date.Date.{Date}
use Rattle.date_display.proofs.Calendars.{date_missing, date_there, day_from_date, date_from_day, kept_date}
use Rattle.date_display.proofs.date.Date.new.Goals as goal

pub returns-then-year-lt1 : goal.returns-then-year-lt1
returns-then-year-lt1 c =
    sym (date_missing c.args.year c.args.month c.args.day (λ is. let from = is.year_in.0 in omega (arith, ints)))

pub returns-in-Ok : goal.returns-in-Ok
returns-in-Ok c =
    let kept = kept_date c.args.year c.args.month c.args.day c.ranges.year c.ranges.month c.ranges.day in
    let There : Date → Type 0 = λ date. IsDate date.year date.month date.day in
    let there : IsDate c.args.year c.args.month c.args.day = subst There kept (c.in-Ok.ensures.succeeds.0 refl) in
    ap (λ (date : Date). Some date) kept
    ∙ sym (date_there c.args.year c.args.month c.args.day
    (day_from_date c.args.year c.args.month c.args.day there (omega (arith, ints))))

pub returns-in-Err : goal.returns-in-Err
returns-in-Err c =
    let kept = kept_date c.args.year c.args.month c.args.day c.ranges.year c.ranges.month c.ranges.day in
    let There : Date → Type 0 = λ date. IsDate date.year date.month date.day in
    sym (date_missing c.args.year c.args.month c.args.day (λ is.
    let there : IsDate c.args.year c.args.month c.args.day = date_from_day c.args.year c.args.month c.args.day is in
    absurd (let never = c.in-Err.ensures.succeeds.1 (subst There (sym kept) there) in cc)))
