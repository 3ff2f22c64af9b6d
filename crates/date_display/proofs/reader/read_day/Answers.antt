use Rattle.std.proofs.Common.{Some, sym, ap, subst, ◌∙◌}
use Rattle.date_display.specs.Calendar.{IsDay}
use Rattle.date_display.specs.Texts.{SpellsDay}
use Rattle.date_display.specs.declared.date.Date.{Date}
use Rattle.date_display.proofs.Calendars.{kept_day}
use Rattle.date_display.proofs.Spelled.{date_in_found, date_in_again}
use Rattle.date_display.proofs.reader.read_day.Goals as goal

pub invariant_of-result : goal.invariant_of-result
invariant_of-result c =
    let date = c.in-Some.field-0 in
    let is = (date_in_found c.args.text.now date (sym c.in-Some.ensures)).exists in
    let Exists : Date → Type 0 = λ other. IsDay other.year other.month other.day in
    record { exists = subst Exists (sym (kept_day date is)) is }

pub returns-in-Some-clause-found : goal.returns-in-Some-clause-found
returns-in-Some-clause-found c =
    let date = c.in-Some.field-0 in
    let spelled = date_in_found c.args.text.now date (sym c.in-Some.ensures) in
    let Spelled : Date → Type 0 = λ other. SpellsDay c.args.text.now other in
    subst Spelled (sym (kept_day date spelled.exists)) spelled

pub returns-in-Some-clause-only : goal.returns-in-Some-clause-only
returns-in-Some-clause-only c = λ other spelled.
    let date = c.in-Some.field-0 in
    let is = (date_in_found c.args.text.now date (sym c.in-Some.ensures)).exists in
    ap (λ (x : Date). Some x) (kept_day date is) ∙ c.in-Some.ensures ∙ date_in_again c.args.text.now other spelled

pub returns-in-None-clause-only : goal.returns-in-None-clause-only
returns-in-None-clause-only c = λ other spelled. c.in-None.ensures ∙ date_in_again c.args.text.now other spelled
