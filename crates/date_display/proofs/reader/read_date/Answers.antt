use Rattle.std.proofs.Common.{List, ℕ, Option, ap, sym, ◌∙◌, arith, rules, w8, w16}
use mir.Val.{SFits}
use Rattle.std.proofs.lemmas.List.{take_rest}
use Rattle.date_display.specs.Days.{date_if}
use Rattle.date_display.specs.Texts.{digits_in}
use Rattle.date_display.specs.declared.date.Date.{Date}
use Rattle.date_display.proofs.Calendars.{kept_date}
use Rattle.date_display.proofs.Spelled.{date_in_short, date_in_with}
use Rattle.date_display.proofs.reader.read_date.Goals as goal

pub returns-then-text-ne8 : goal.returns-then-text-ne8
returns-then-text-ne8 c = sym (date_in_short c.args.text.now (λ long. omega (arith, long)))

pub returns : goal.returns
returns c =
    let text = c.args.text.now in
    let year : SFits w16 c.in_ok-year.year = search rules in
    let month : SFits w8 c.in_ok-month.month = search rules in
    let day : SFits w8 c.in_ok-day.day = search rules in
    let If : Date → Option Date = λ date. date_if date.year date.month date.day in
    let behind = ap (λ (l : List ℕ). digits_in 2 l) (sym (take_rest text 6)) in
    c.new.ensures
    ∙ ap If (kept_date c.in_ok-year.year c.in_ok-month.month c.in_ok-day.day year month day)
    ∙ sym (date_in_with text c.in_ok-year.year c.in_ok-month.month c.in_ok-day.day
    (sym c.in_ok-year.ensures.function) (sym c.in_ok-month.ensures) (behind ∙ sym c.in_ok-day.ensures))
