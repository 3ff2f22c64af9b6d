use Rattle.std.proofs.Common.{arith, sym, ap, ◌∙◌, Some, ℕ}
use Rattle.std.proofs.lemmas.Bool.{true≢false}
use Rattle.common_lemmas.proofs.Digits.{test_from_AllDigits}
use Rattle.text_scan.proofs.Numbers.{number_below, number_of_again, number_of_missing}
use Rattle.text_scan.proofs.number.read_number.Goals as goal

pub append_digits-requires-clause-all : goal.append_digits-requires-clause-all
append_digits-requires-clause-all c =
    test_from_AllDigits c.args.text.now (c.is_number.ensures.0 c.if-is_number.true).0.1

pub overflow_cast-result : goal.overflow_cast-result
overflow_cast-result c =
    omega (arith, number_below c.args.text.now (c.is_number.ensures.0 c.if-is_number.true), c.append_digits.ensures.value)

pub returns-then-is_number-clause-below : goal.returns-then-is_number-clause-below
returns-then-is_number-clause-below c =
    omega (arith, number_below c.args.text.now (c.is_number.ensures.0 c.if-is_number.true), c.append_digits.ensures.value)

pub returns-then-is_number-clause-function : goal.returns-then-is_number-clause-function
returns-then-is_number-clause-function c =
    ap (λ (n : ℕ). Some n) c.append_digits.ensures.value ∙ sym (number_of_again c.args.text.now (c.is_number.ensures.0 c.if-is_number.true))

pub returns-else-is_number-clause-function : goal.returns-else-is_number-clause-function
returns-else-is_number-clause-function c = sym (number_of_missing c.args.text.now (λ is. true≢false (sym (c.is_number.ensures.1 is) ∙ c.if-is_number.false)))
