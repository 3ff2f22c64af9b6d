-- Days by their test.
use Rattle.std.proofs.Common.{◌≡◌, ℕ, Bool, true, false, cond, eqb, ◌&&◌, ◌||◌, Some, None, refl, subst, sym, ap, ◌∙◌, arith, w8, w16, of_z, to_z}
use mir.Val.{SFits}
use Rattle.std.specs.Prelude.{ℤ, pos, ◌≤ℤ◌, int_le, unsigned_abs}
use Rattle.std.proofs.lemmas.Bool.{false_from_ne_true}
use Rattle.std.specs.Bool.{Decides}
use Rattle.std.proofs.lemmas.Int.{ints, to_z-of_z}
use Rattle.std.proofs.lemmas.Bool.Decides.{Decides-and}
use Rattle.jiff.specs.Words.{IsDate, days_in_month}
use Rattle.date_display.specs.Days.{date_if}
use Rattle.date_display.specs.declared.date.Date.{Date}
use Rattle.date_display.specs.Calendar.{is_leap_year, IsFromTo, IsDay, is_from_to, is_day, days_of_month}

pub Decides-int_le : (x y : ℤ) → Decides (int_le x y) (x ≤ℤ y)
Decides-int_le x y = (λ h. grind (arith, ints), λ h. grind (arith, ints))

pub Decides-is_from_to : (low high z : ℤ) → Decides (is_from_to low high z) (IsFromTo low high z)
Decides-is_from_to low high z =
    Decides-and (int_le low z) (int_le z high) (Decides-int_le low z) (Decides-int_le z high)

pub Decides-is_day : (year month day : ℤ) → Decides (is_day year month day) (IsDay year month day)
unfolding is_day
Decides-is_day year month day =
    let all = Decides-and (is_from_to (pos 1) (pos 9999) year) (is_from_to (pos 1) (pos 12) month && is_from_to (pos 1) (days_of_month year month) day)
    (Decides-is_from_to (pos 1) (pos 9999) year)
    (Decides-and (is_from_to (pos 1) (pos 12) month) (is_from_to (pos 1) (days_of_month year month) day)
    (Decides-is_from_to (pos 1) (pos 12) month) (Decides-is_from_to (pos 1) (days_of_month year month) day)) in (
      λ h. let p = all.0 h in record { year_in = p.0; month_in = p.1.0; day_in = p.1.1 },
      λ d. all.1 (d.year_in, (d.month_in, d.day_in)),
    )

-- ---- the calendar of the dates' library

picked : (a b c : Bool) → pos (cond a (cond b 29 28) (cond c 30 31)) ≡ cond a (cond b (pos 29) (pos 28)) (cond c (pos 30) (pos 31))
picked true true c = refl
picked true false c = refl
picked false b true = refl
picked false b false = refl

pub same_days : (year month : ℤ) → pos (days_in_month year (unsigned_abs month)) ≡ days_of_month year month
same_days year month =
    let m = unsigned_abs month in
    picked (eqb m 2) (is_leap_year year) (eqb m 4 || eqb m 6 || eqb m 9 || eqb m 11)

pub day_from_date : (year month day : ℤ) → IsDate year month day → pos 1 ≤ℤ year → IsDay year month day
day_from_date year month day is from = record {
  year_in = (from, is.0.1);
  month_in = is.1;
  day_in = (is.2.0, subst (λ (z : ℤ). day ≤ℤ z) (same_days year month) is.2.1);
}

pub date_from_day : (year month day : ℤ) → IsDay year month day → IsDate year month day
date_from_day year month day is = (
  (omega (arith, ints, is.year_in.0), is.year_in.1),
  is.month_in,
  (is.day_in.0, subst (λ (z : ℤ). day ≤ℤ z) (sym (same_days year month)) is.day_in.1),
)

-- ---- the date with these parts

pub date_missing : (year month day : ℤ) → (IsDay year month day → ⊥) → date_if year month day ≡ None
date_missing year month day other =
    rw (false_from_ne_true (is_day year month day) (λ h. other ((Decides-is_day year month day).0 h))) refl

pub date_there : (year month day : ℤ) → IsDay year month day
    → date_if year month day ≡ Some (record { year = year; month = month; day = day })
date_there year month day is = rw ((Decides-is_day year month day).1 is) refl

pub month_days : (year month y : ℤ) (m : ℕ) → y ≡ year → pos m ≡ month
    → pos (days_in_month y m) ≡ days_of_month year month
month_days year month y m same_year same_month =
    ap (λ (z : ℤ). pos (days_in_month z m)) same_year
    ∙ ap (λ (z : ℤ). pos (days_in_month year (unsigned_abs z))) same_month
    ∙ same_days year month

-- ---- the numbers of a date are kept in its fields

some_length : (a b c : Bool) → IsFromTo (pos 28) (pos 31) (cond a (cond b (pos 29) (pos 28)) (cond c (pos 30) (pos 31)))
some_length true true c = (omega (arith, ints), omega (arith, ints))
some_length true false c = (omega (arith, ints), omega (arith, ints))
some_length false b true = (omega (arith, ints), omega (arith, ints))
some_length false b false = (omega (arith, ints), omega (arith, ints))

lengths : (year month : ℤ) → IsFromTo (pos 28) (pos 31) (days_of_month year month)
lengths year month =
    let m = unsigned_abs month in
    some_length (eqb m 2) (is_leap_year year) (eqb m 4 || eqb m 6 || eqb m 9 || eqb m 11)

pub length_fits : (year month : ℤ) → SFits w8 (days_of_month year month)
length_fits year month =
    let both = lengths year month in
    let low = both.0 in
    let high = both.1 in
    omega (arith, ints, low, high)

pub year_fits : (year month day : ℤ) → IsDay year month day → SFits w16 year
year_fits year month day is =
    let low = is.year_in.0 in
    let high = is.year_in.1 in
    omega (arith, ints, low, high)

pub month_fits : (year month day : ℤ) → IsDay year month day → SFits w8 month
month_fits year month day is =
    let low = is.month_in.0 in
    let high = is.month_in.1 in
    omega (arith, ints, low, high)

pub day_fits : (year month day : ℤ) → IsDay year month day → SFits w8 day
day_fits year month day is =
    let low = is.day_in.0 in
    let high = is.day_in.1 in
    let most = (lengths year month).1 in
    omega (arith, ints, low, high, most)

pub kept_date : (year month day : ℤ) → SFits w16 year → SFits w8 month → SFits w8 day → ◌≡◌ {A = Date}
    (record { year = to_z w16 (of_z w16 year); month = to_z w8 (of_z w8 month); day = to_z w8 (of_z w8 day) })
    (record { year = year; month = month; day = day })
kept_date year month day y m d = rw (to_z-of_z w16 year y, to_z-of_z w8 month m, to_z-of_z w8 day d) refl

pub kept_day : (date : Date) → IsDay date.year date.month date.day → ◌≡◌ {A = Date}
    (record { year = to_z w16 (of_z w16 date.year); month = to_z w8 (of_z w8 date.month); day = to_z w8 (of_z w8 date.day) }) date
kept_day date is =
    kept_date date.year date.month date.day (year_fits date.year date.month date.day is)
    (month_fits date.year date.month date.day is) (day_fits date.year date.month date.day is)
