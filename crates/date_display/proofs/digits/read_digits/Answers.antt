use Rattle.std.proofs.Common.{ap, sym, refl, arith}
use Rattle.std.specs.Prelude.{ℤ, pos, Some}
use Rattle.std.specs.Str.Parse.{digits_value}
use Rattle.std.proofs.lemmas.Int.{ints}
use Rattle.date_display.specs.Texts.{SpellsNumber}
use Rattle.date_display.proofs.Spelled.{number_again, number_missing, below_ten_thousand, below_count}
use Rattle.date_display.proofs.digits.read_digits.Goals as goal

pub returns-then-text-count-clause-function : goal.returns-then-text-count-clause-function
returns-then-text-count-clause-function c =
    sym (number_missing c.args.count c.args.text.now (λ is. let long = is.long in omega arith))

pub overflow_cast-result : goal.overflow_cast-result
overflow_cast-result c =
    let exact = c.in-Some.ensures.exact in
    let small = below_ten_thousand c.args.text.now exact.0.0.1 (omega arith) in
    omega (arith, small, exact.1)

pub returns-in-Some-clause-function : goal.returns-in-Some-clause-function
returns-in-Some-clause-function c =
    let text = c.args.text.now in
    let exact = c.in-Some.ensures.exact in
    let small = below_ten_thousand text exact.0.0.1 (omega arith) in
    let is : SpellsNumber c.args.count text (pos (digits_value 10 text)) =
    record { long = omega arith; digits = exact.0.0.1; value = refl } in
    rw (number_again c.args.count text (pos (digits_value 10 text)) is)
    (ap (λ (z : ℤ). Some z) (omega (arith, ints, small, exact.1)))

pub returns-in-Some-clause-low : goal.returns-in-Some-clause-low
returns-in-Some-clause-low c =
    let exact = c.in-Some.ensures.exact in
    let small = below_ten_thousand c.args.text.now exact.0.0.1 (omega arith) in
    omega (arith, ints, small, exact.1)

pub returns-in-Some-clause-high : goal.returns-in-Some-clause-high
returns-in-Some-clause-high c =
    let exact = c.in-Some.ensures.exact in
    let small = below_ten_thousand c.args.text.now exact.0.0.1 (omega arith) in
    let below = below_count c.args.text.now c.args.count exact.0.0.1 (omega arith) in
    omega (arith, ints, small, below, exact.1)

pub returns-in-None-clause-function : goal.returns-in-None-clause-function
returns-in-None-clause-function c =
    sym (number_missing c.args.count c.args.text.now (λ is.
    let long = is.long in
    c.in-None.ensures.exact ((omega arith, is.digits), omega arith)))
