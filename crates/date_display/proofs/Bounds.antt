-- The days on which a feature is shown, by their test.
use Rattle.std.proofs.Common.{◌≡◌, ℕ, Bool, true, false, cond, ◌&&◌, ◌||◌, ◌⊎◌, Option, Some, None, refl, sym, subst, ◌∙◌, ◌↔◌, arith}
use Rattle.std.specs.Prelude.{ℤ, ◌<ℤ◌, int_le, int_lt, IsTrue}
use Rattle.std.specs.Bool.{Decides}
use Rattle.std.specs.Ordering.{int_eq}
use Rattle.std.specs.FinMap as map
use Rattle.std.proofs.lemmas.Bool.{true≢false}
use Rattle.std.proofs.lemmas.Bool.Decides.{Decides-and, Decides-or, Decides-int_eq, Decides-like}
use Rattle.std.proofs.lemmas.Int.{ints}
use Rattle.std.proofs.lemmas.Option.{option_and_then_some}
use Rattle.chart_model.specs.Attrs.{Attrs}
use Rattle.date_display.specs.Days.{IsMonthDayUpTo, IsUpTo, IsInSeason, is_month_day_up_to, is_up_to, is_in_season, month_day_of}
use Rattle.date_display.specs.Shown.{IsNamed, IsBegun, IsNotOver, IsInPeriod, IsShownOn, dates_at, is_begun, is_not_over}
use Rattle.date_display.specs.Shown.{is_in_period, is_shown_on}
use Rattle.date_display.specs.Texts.{dates_in}
use Rattle.date_display.specs.declared.date.Date.{Date}
use Rattle.date_display.specs.declared.month_day.MonthDay.{MonthDay}
use Rattle.date_display.specs.declared.dates.Dates.{Dates}
use Rattle.date_display.specs.declared.dates.Dates.TheVariants.{Dated, Yearly}
use Rattle.date_display.proofs.Calendars.{Decides-int_le}
use Rattle.date_display.proofs.Named.{dates_found, dates_again}

-- ---- the order of days

Decides-int_lt : (x y : ℤ) → Decides (int_lt x y) (x <ℤ y)
Decides-int_lt x y = (λ h. grind (arith, ints), λ h. grind (arith, ints))

pub Decides-is_month_day_up_to : (a b : MonthDay) → Decides (is_month_day_up_to a b) (IsMonthDayUpTo a b)
Decides-is_month_day_up_to a b =
    Decides-or (int_lt a.month b.month) (int_eq a.month b.month && int_le a.day b.day) (Decides-int_lt a.month b.month)
    (Decides-and (int_eq a.month b.month) (int_le a.day b.day) (Decides-int_eq a.month b.month) (Decides-int_le a.day b.day))

pub Decides-is_up_to : (a b : Date) → Decides (is_up_to a b) (IsUpTo a b)
Decides-is_up_to a b =
    Decides-or (int_lt a.year b.year) (int_eq a.year b.year && is_month_day_up_to (month_day_of a) (month_day_of b))
    (Decides-int_lt a.year b.year)
    (Decides-and (int_eq a.year b.year) (is_month_day_up_to (month_day_of a) (month_day_of b))
    (Decides-int_eq a.year b.year) (Decides-is_month_day_up_to (month_day_of a) (month_day_of b)))

chosen_season : (order begun ended : Bool) (Order Begun Ended : Type 0) → Decides order Order → Decides begun Begun
    → Decides ended Ended
    → Decides (cond order (begun && ended) (begun || ended))
    ((Order → Begun × Ended) × (¬ Order → Begun ⊎ Ended))
chosen_season true begun ended Order Begun Ended o b e =
    let both = Decides-and begun ended b e in
    (λ h. ((λ _. both.0 h), (λ none. absurd (none (o.0 refl)))), λ h. both.1 (h.0 (o.0 refl)))
chosen_season false begun ended Order Begun Ended o b e =
    let one = Decides-or begun ended b e in
    let none : ¬ Order = λ is. true≢false (sym (o.1 is)) in
    (λ h. ((λ is. absurd (none is)), (λ _. one.0 h)), λ h. one.1 (h.1 none))

pub Decides-is_in_season : (first last day : MonthDay) → Decides (is_in_season first last day) (IsInSeason first last day)
Decides-is_in_season first last day =
    Decides-like (is_in_season first last day)
    (λ h. record { in_order = h.0; over_the_turn = h.1 }) (λ is. (is.in_order, is.over_the_turn))
    (chosen_season (is_month_day_up_to first last) (is_month_day_up_to first day) (is_month_day_up_to day last)
    (IsMonthDayUpTo first last) (IsMonthDayUpTo first day) (IsMonthDayUpTo day last)
    (Decides-is_month_day_up_to first last) (Decides-is_month_day_up_to first day) (Decides-is_month_day_up_to day last))

-- ---- what an attribute names

pub named_at : (attrs : Attrs) (code : ℕ) (dates : Dates) → dates_at attrs code ≡ Some dates → IsNamed attrs code dates
named_at attrs code dates e =
    option_and_then_some dates_in (map.get attrs code) dates e (λ text there is. (text, there, dates_found text dates is))

pub at_named : (attrs : Attrs) (code : ℕ) (dates : Dates) → IsNamed attrs code dates → dates_at attrs code ≡ Some dates
at_named attrs code dates is = rw is.1 (dates_again is.0 dates is.2)

begun_by : (attrs : Attrs) (code : ℕ) (day : Date) (named : Option Dates) → dates_at attrs code ≡ named
    → Decides (is_begun named day) (IsBegun attrs code day)
begun_by attrs code day None e =
    (λ _ first last is. absurd (let other = sym e ∙ at_named attrs code (Dated first last) is in cc), λ _. refl)
begun_by attrs code day (Some (Dated a b)) e =
    let d = Decides-is_up_to a day in (
      λ h first last is.
          let both = sym e ∙ at_named attrs code (Dated first last) is in
          let same : a ≡ first = cc in
          let P : Date → Type 0 = λ date. IsUpTo date day in
          subst P same (d.0 h),
      λ begun. d.1 (begun a b (named_at attrs code (Dated a b) e)),
    )
begun_by attrs code day (Some (Yearly a b)) e =
    (λ _ first last is. absurd (let other = sym e ∙ at_named attrs code (Dated first last) is in cc), λ _. refl)

not_over_by : (attrs : Attrs) (code : ℕ) (day : Date) (named : Option Dates) → dates_at attrs code ≡ named
    → Decides (is_not_over named day) (IsNotOver attrs code day)
not_over_by attrs code day None e =
    (λ _ first last is. absurd (let other = sym e ∙ at_named attrs code (Dated first last) is in cc), λ _. refl)
not_over_by attrs code day (Some (Dated a b)) e =
    let d = Decides-is_up_to day b in (
      λ h first last is.
          let both = sym e ∙ at_named attrs code (Dated first last) is in
          let same : b ≡ last = cc in
          let P : Date → Type 0 = λ date. IsUpTo day date in
          subst P same (d.0 h),
      λ over. d.1 (over a b (named_at attrs code (Dated a b) e)),
    )
not_over_by attrs code day (Some (Yearly a b)) e =
    (λ _ first last is. absurd (let other = sym e ∙ at_named attrs code (Dated first last) is in cc), λ _. refl)

-- nothing is bounded unless both name days of every year
unbounded : (attrs : Attrs) (start end : ℕ) (day : Date)
    → ((a b c d : MonthDay) → IsNamed attrs start (Yearly a b) → IsNamed attrs end (Yearly c d) → ⊥)
    → Decides true (IsInPeriod attrs start end day)
unbounded attrs start end day never = (λ _ a b c d s t. absurd (never a b c d s t), λ _. refl)

period_by : (attrs : Attrs) (start end : ℕ) (day : Date) (from to : Option Dates) → dates_at attrs start ≡ from
    → dates_at attrs end ≡ to → Decides (is_in_period from to day) (IsInPeriod attrs start end day)
period_by attrs start end day None to e f =
    unbounded attrs start end day (λ a b c d s t. let other = sym e ∙ at_named attrs start (Yearly a b) s in cc)
period_by attrs start end day (Some (Dated p q)) to e f =
    unbounded attrs start end day (λ a b c d s t. let other = sym e ∙ at_named attrs start (Yearly a b) s in cc)
period_by attrs start end day (Some (Yearly p q)) None e f =
    unbounded attrs start end day (λ a b c d s t. let other = sym f ∙ at_named attrs end (Yearly c d) t in cc)
period_by attrs start end day (Some (Yearly p q)) (Some (Dated u v)) e f =
    unbounded attrs start end day (λ a b c d s t. let other = sym f ∙ at_named attrs end (Yearly c d) t in cc)
period_by attrs start end day (Some (Yearly p q)) (Some (Yearly u v)) e f =
    let d = Decides-is_in_season p v (month_day_of day) in (
      λ h a b c z s t.
          let from = sym e ∙ at_named attrs start (Yearly a b) s in
          let to = sym f ∙ at_named attrs end (Yearly c z) t in
          let first : p ≡ a = cc in
          let last : v ≡ z = cc in
          let P : MonthDay → MonthDay → Type 0 = λ x y. IsInSeason x y (month_day_of day) in
          subst (λ (x : MonthDay). P x z) first (subst (λ (y : MonthDay). P p y) last (d.0 h)),
      λ is. d.1 (is p q u v (named_at attrs start (Yearly p q) e) (named_at attrs end (Yearly u v) f)),
    )

pub Decides-is_shown_on : (day : Date) (attrs : Attrs) → Decides (is_shown_on day attrs) (IsShownOn day attrs)
unfolding is_shown_on
Decides-is_shown_on day attrs =
    let datsta = is_begun (dates_at attrs 86) day in
    let datend = is_not_over (dates_at attrs 85) day in
    let persta = is_begun (dates_at attrs 119) day in
    let perend = is_not_over (dates_at attrs 118) day in
    let period = is_in_period (dates_at attrs 119) (dates_at attrs 118) day in
    let all = Decides-and datsta (datend && (persta && (perend && period))) (begun_by attrs 86 day (dates_at attrs 86) refl)
    (Decides-and datend (persta && (perend && period)) (not_over_by attrs 85 day (dates_at attrs 85) refl)
    (Decides-and persta (perend && period) (begun_by attrs 119 day (dates_at attrs 119) refl)
    (Decides-and perend period (not_over_by attrs 118 day (dates_at attrs 118) refl)
    (period_by attrs 119 118 day (dates_at attrs 119) (dates_at attrs 118) refl refl)))) in (
      λ h. let p = all.0 h in record {
        begun = p.0;
        not_over = p.1.0;
        period_begun = p.1.1.0;
        period_not_over = p.1.1.1.0;
        in_period = p.1.1.1.1;
      },
      λ is. all.1 (is.begun, (is.not_over, (is.period_begun, (is.period_not_over, is.in_period)))),
    )

pub shown_exact : (day : Date) (attrs : Attrs) (answer : Bool) → answer ≡ is_shown_on day attrs
    → IsTrue answer ↔ IsShownOn day attrs
shown_exact day attrs answer e =
    let d = Decides-is_shown_on day attrs in
    (λ h. d.0 (sym e ∙ h), λ is. e ∙ d.1 is)
