-- Texts of dates are read as they are spelled.
use Rattle.std.proofs.Common.{◌≡◌, ℕ, ◌+◌, ◌<◌, ◌≤◌, ◌^◌, true, eqb, ◌&&◌, List, ◌++◌, length, take, drop}
use Rattle.std.proofs.Common.{Some, None, refl, sym, ap, ◌∙◌, subst, inl, inr, arith, length-append}
use Rattle.std.specs.Prelude.{ℤ, pos, option_and_then}
use Rattle.std.specs.Str.{all_ascii_digits}
use Rattle.std.specs.Str.Parse.{AllDigits, digits_value}
use Rattle.std.proofs.Math.Seq.{drop-append_seam, take-append_seam}
use Rattle.std.proofs.lemmas.Bool.Decides.{Decides-eqb}
use Rattle.std.proofs.lemmas.Bool.{eqb-true, and_parts}
use Rattle.std.proofs.lemmas.List.{take-append-drop, drop-drop}
use Rattle.std.proofs.lemmas.Option.{option_and_then_some}
use Rattle.common_lemmas.proofs.Choices.{chosen, none_unless, some_is}
use Rattle.common_lemmas.proofs.Digits.{AllDigits-from_test, test_from_AllDigits, value_short}
use Rattle.date_display.specs.Calendar.{IsDay, is_day}
use Rattle.date_display.specs.Days.{date_if, last_of_month}
use Rattle.date_display.specs.declared.date.Date.{Date}
use Rattle.date_display.specs.Texts.{SpellsNumber, SpellsDay, SpellsMonth}
use Rattle.date_display.specs.Texts.{digits_in, date_in, first_of_month_in}
use Rattle.date_display.proofs.Calendars.{Decides-is_day, date_there}

-- ---- digits

pub number_found : (count : ℕ) (text : List ℕ) (number : ℤ) → digits_in count text ≡ Some number
    → SpellsNumber count text number
unfolding digits_in
number_found count text number e =
    elim (chosen (eqb (length text) count && all_ascii_digits text) (Some (pos (digits_value 10 text))) None (Some number) e) [
      | inl h ↦
          let p = and_parts (eqb (length text) count) (all_ascii_digits text) h.0 in
          record { long = eqb-true _ _ p.0; digits = AllDigits-from_test text p.1; value = some_is _ _ h.1 }
      | inr h ↦ absurd (let none = h.1 in cc)
    ]

pub number_again : (count : ℕ) (text : List ℕ) (number : ℤ) → SpellsNumber count text number
    → digits_in count text ≡ Some number
unfolding digits_in
number_again count text number is =
    let all : all_ascii_digits text ≡ true = test_from_AllDigits text is.digits in
    rw (is.long, (Decides-eqb count count).1 refl, all) (ap (λ (n : ℤ). Some n) is.value)

pub number_missing : (count : ℕ) (text : List ℕ) → (SpellsNumber count text (pos (digits_value 10 text)) → ⊥)
    → digits_in count text ≡ None
number_missing count text other = none_unless (digits_in count text) (λ number e.
    let is = number_found count text number e in
    other (record { long = is.long; digits = is.digits; value = refl }))

pub below_count : (text : List ℕ) (count : ℕ) → AllDigits 10 text → length text ≡ count → digits_value 10 text < 10 ^ count
below_count text count digits long = value_short text count (test_from_AllDigits text digits) (omega arith)

pub below_ten_thousand : (text : List ℕ) → AllDigits 10 text → length text ≤ 4 → digits_value 10 text < 10000
below_ten_thousand text digits short =
    let below = value_short text 4 (test_from_AllDigits text digits) short in omega (arith, below)

-- ---- days

pub day_found : (year month day : ℤ) (date : Date) → date_if year month day ≡ Some date
    → IsDay year month day × (◌≡◌ {A = Date} (record { year = year; month = month; day = day }) date)
day_found year month day date e =
    elim (chosen (is_day year month day) (Some (record { year = year; month = month; day = day })) None (Some date) e) [
      | inl h ↦ ((Decides-is_day year month day).0 h.0, some_is _ _ h.1)
      | inr h ↦ absurd (let none = h.1 in cc)
    ]

-- ---- dates

six : (text : List ℕ) → drop 2 (drop 4 text) ≡ drop 6 text
six text = drop-drop 2 4 text

-- the three parts of a text
pub parts_of : (text : List ℕ) → text ≡ take 4 text ++ (take 2 (drop 4 text) ++ drop 6 text)
parts_of text =
    sym (ap (λ (l : List ℕ). take 4 text ++ (take 2 (drop 4 text) ++ l)) (sym (six text))
    ∙ ap (λ (l : List ℕ). take 4 text ++ l) (take-append-drop 2 (drop 4 text))
    ∙ take-append-drop 4 text)

-- the parts of a text that is made of them
pub front : (n : ℕ) (xs ys : List ℕ) → length xs ≡ n → take n (xs ++ ys) ≡ xs
front n xs ys e = subst (λ (k : ℕ). take k (xs ++ ys) ≡ xs) e (take-append_seam xs ys)

pub behind : (n : ℕ) (xs ys : List ℕ) → length xs ≡ n → drop n (xs ++ ys) ≡ ys
behind n xs ys e = subst (λ (k : ℕ). drop k (xs ++ ys) ≡ ys) e (drop-append_seam xs ys)

with_parts : (year month day : ℤ) (date : Date) (text : List ℕ)
    → SpellsNumber 4 (take 4 text) year → SpellsNumber 2 (take 2 (drop 4 text)) month
    → SpellsNumber 2 (drop 6 text) day → IsDay year month day
    → ◌≡◌ {A = Date} (record { year = year; month = month; day = day }) date → SpellsDay text date
with_parts year month day date text y m d is e =
    let P : Date → Type 0 = λ found. SpellsDay text found in
    subst P e (record {
      year_text = take 4 text;
      month_text = take 2 (drop 4 text);
      day_text = drop 6 text;
      parts = parts_of text;
      year = y;
      month = m;
      day = d;
      exists = is;
    })

pub date_in_with : (text : List ℕ) (year month day : ℤ) → digits_in 4 (take 4 text) ≡ Some year
    → digits_in 2 (take 2 (drop 4 text)) ≡ Some month → digits_in 2 (drop 6 text) ≡ Some day
    → date_in text ≡ date_if year month day
unfolding date_in
date_in_with text year month day y m d = rw (y, m, d) refl

pub date_in_found : (text : List ℕ) (date : Date) → date_in text ≡ Some date → SpellsDay text date
unfolding date_in
date_in_found text date e =
    option_and_then_some (λ year. option_and_then (λ month. option_and_then (λ day. date_if year month day)
    (digits_in 2 (drop 6 text))) (digits_in 2 (take 2 (drop 4 text)))) (digits_in 4 (take 4 text)) date e
    (λ year y e1. option_and_then_some (λ month. option_and_then (λ day. date_if year month day)
    (digits_in 2 (drop 6 text))) (digits_in 2 (take 2 (drop 4 text))) date e1
    (λ month m e2. option_and_then_some (λ day. date_if year month day) (digits_in 2 (drop 6 text)) date e2
    (λ day d e3. let found = day_found year month day date e3 in
    with_parts year month day date text (number_found 4 (take 4 text) year y)
    (number_found 2 (take 2 (drop 4 text)) month m) (number_found 2 (drop 6 text) day d) found.0 found.1)))

date_in_parts : (a b c : List ℕ) (date : Date) → SpellsNumber 4 a date.year → SpellsNumber 2 b date.month
    → SpellsNumber 2 c date.day → IsDay date.year date.month date.day → date_in (a ++ (b ++ c)) ≡ Some date
unfolding date_in
date_in_parts a b c date y m d is =
    let behind_a : drop 4 (a ++ (b ++ c)) ≡ b ++ c = behind 4 a (b ++ c) y.long in
    let behind_b : drop 6 (a ++ (b ++ c)) ≡ c =
    sym (six (a ++ (b ++ c))) ∙ ap (λ (l : List ℕ). drop 2 l) behind_a ∙ behind 2 b c m.long in
    rw (
      front 4 a (b ++ c) y.long,
      behind_a,
      front 2 b c m.long,
      behind_b,
      number_again 4 a date.year y,
      number_again 2 b date.month m,
      number_again 2 c date.day d,
    ) (date_there date.year date.month date.day is)

pub date_in_again : (text : List ℕ) (date : Date) → SpellsDay text date → date_in text ≡ Some date
date_in_again text date is =
    ap date_in is.parts ∙ date_in_parts is.year_text is.month_text is.day_text date is.year is.month is.day is.exists

-- ---- months and years

month_at : (text : List ℕ) (year month : ℤ) (first : Date) → SpellsNumber 4 (take 4 text) year
    → SpellsNumber 2 (drop 4 text) month → IsDay year month (pos 1)
    → ◌≡◌ {A = Date} (record { year = year; month = month; day = pos 1 }) first → SpellsMonth text first (last_of_month first)
month_at text year month first y m is e =
    let P : Date → Type 0 = λ found. SpellsMonth text found (last_of_month found) in
    subst P e (record {
      year_text = take 4 text;
      month_text = drop 4 text;
      parts = sym (take-append-drop 4 text);
      year = y;
      month = m;
      begins = refl;
      exists = is;
      ends = refl;
    })

pub month_found : (text : List ℕ) (first : Date) → first_of_month_in text ≡ Some first
    → SpellsMonth text first (last_of_month first)
unfolding first_of_month_in
month_found text first e =
    option_and_then_some (λ year. option_and_then (λ month. date_if year month (pos 1)) (digits_in 2 (drop 4 text)))
    (digits_in 4 (take 4 text)) first e
    (λ year y e1. option_and_then_some (λ month. date_if year month (pos 1)) (digits_in 2 (drop 4 text)) first e1
    (λ month m e2. let found = day_found year month (pos 1) first e2 in
    month_at text year month first (number_found 4 (take 4 text) year y) (number_found 2 (drop 4 text) month m)
    found.0 found.1))

month_parts : (a b : List ℕ) (first : Date) → SpellsNumber 4 a first.year → SpellsNumber 2 b first.month
    → first.day ≡ pos 1 → IsDay first.year first.month first.day → first_of_month_in (a ++ b) ≡ Some first
unfolding first_of_month_in
month_parts a b first y m d is =
    let is_one : IsDay first.year first.month (pos 1) = subst (λ (z : ℤ). IsDay first.year first.month z) d is in
    rw (front 4 a b y.long, behind 4 a b y.long, number_again 4 a first.year y, number_again 2 b first.month m)
    (date_there first.year first.month (pos 1) is_one
    ∙ ap (λ (z : ℤ). Some (record { year = first.year; month = first.month; day = z })) (sym d))

pub month_again : (text : List ℕ) (first last : Date) → SpellsMonth text first last
    → (first_of_month_in text ≡ Some first) × (last_of_month first ≡ last)
month_again text first last is = (
  ap first_of_month_in is.parts ∙ month_parts is.year_text is.month_text first is.year is.month is.begins is.exists,
  sym is.ends,
)

-- ---- the lengths of texts

pub day_long : (text : List ℕ) (date : Date) → SpellsDay text date → length text ≡ 8
day_long text date is =
    ap length is.parts ∙ length-append is.year_text (is.month_text ++ is.day_text)
    ∙ omega (arith, length-append is.month_text is.day_text, is.year.long, is.month.long, is.day.long)

pub month_long : (text : List ℕ) (first last : Date) → SpellsMonth text first last → length text ≡ 6
month_long text first last is =
    ap length is.parts ∙ length-append is.year_text is.month_text ∙ omega (arith, is.year.long, is.month.long)

pub date_in_short : (text : List ℕ) → (length text ≡ 8 → ⊥) → date_in text ≡ None
date_in_short text other =
    none_unless (date_in text) (λ date e. other (day_long text date (date_in_found text date e)))

pub month_short : (text : List ℕ) → (length text ≡ 6 → ⊥) → first_of_month_in text ≡ None
month_short text other =
    none_unless (first_of_month_in text) (λ first e. other (month_long text first (last_of_month first) (month_found text first e)))
