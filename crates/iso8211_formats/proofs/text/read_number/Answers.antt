use Rattle.std.proofs.Common.{rules, arith, sym, ◌≡◌, ◌+◌, get_or, true, ap, ◌∙◌}
use Rattle.std.specs.Str.{all_ascii_digits}
use Rattle.std.specs.Str.Parse.{digits_value}
use Rattle.std.proofs.lemmas.List.{take_all}
use Rattle.std.specs.Char.{is_ascii_digit}
use Rattle.common_lemmas.proofs.Digits.{all_ascii_digits-more}
use Rattle.iso8211_formats.proofs.Searches.{counting_number_of-other, counting_number_of-over, counting_number_of-zero, counting_number_of-is, digits_value-more}
use Rattle.iso8211_formats.proofs.text.read_number.Goals as goal

pub returns-then-not-is_ascii_digit : goal.returns-then-not-is_ascii_digit
returns-then-not-is_ascii_digit c = sym (counting_number_of-other c.args.digits.now c.loop-digit.digit-index (search rules) (search rules))

pub returns-then-value-gt-WIDEST : goal.returns-then-value-gt-WIDEST
returns-then-value-gt-WIDEST c =
    let l = c.loop-digit in
    let digits = c.args.digits.now in
    let digit : is_ascii_digit (get_or digits l.digit-index 0) ≡ true = search rules in
    let value = digits_value-more digits l.digit-index l.value c.from.result (omega arith) l.invariant.0 digit c.from.ensures in
    sym (counting_number_of-over digits (l.digit-index + 1) (omega (arith, value)))

pub loop-digit-preserved : goal.loop-digit-preserved
loop-digit-preserved c =
    let l = c.loop-digit in
    let digits = c.args.digits.now in
    let digit : is_ascii_digit (get_or digits l.digit-index 0) ≡ true = search rules in
    let value = digits_value-more digits l.digit-index l.value c.from.result (omega arith) l.invariant.0 digit c.from.ensures in
    (value, omega arith, all_ascii_digits-more digits l.digit-index (omega arith) l.invariant.2 digit)

pub returns-then-value-eq0 : goal.returns-then-value-eq0
returns-then-value-eq0 c =
    let all = take_all c.loop-digit.digit-index c.args.digits.now (omega arith) in
    sym (counting_number_of-zero c.args.digits.now (ap (digits_value 10) (sym all) ∙ sym c.loop-digit.invariant.0 ∙ c.if-value-eq0.true))

pub returns-else-value-eq0 : goal.returns-else-value-eq0
returns-else-value-eq0 c =
    let all = take_all c.loop-digit.digit-index c.args.digits.now (omega arith) in
    sym (counting_number_of-is c.args.digits.now c.loop-digit.value (ap all_ascii_digits (sym all) ∙ c.loop-digit.invariant.2) (c.loop-digit.invariant.0 ∙ ap (digits_value 10) all) (omega arith) (omega arith))
