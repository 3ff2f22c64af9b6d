use Rattle.std.proofs.Common.{sym, arith}
use Rattle.command_words.proofs.Digits.{from_to_again, from_to_missing}
use Rattle.command_words.proofs.numbers.number_within.Goals as goal

pub returns-in-Some : goal.returns-in-Some
returns-in-Some c =
    let low = c.if-low-number.true in
    let high = c.if-number-high.true in
    sym (from_to_again c.args.low c.args.high c.args.text.now c.in-Some.number (c.in-Some.ensures.0.0, c.in-Some.ensures.1) low high)

pub returns-in_default : goal.returns-in_default
returns-in_default c =
    let above = c.if-number-high.false in
    let is = c.in-Some.ensures.1 in
    sym (from_to_missing c.args.low c.args.high c.args.text.now (λ n spelled low high. let same = spelled.1 in omega arith))

pub returns-in_default-2 : goal.returns-in_default-2
returns-in_default-2 c =
    let below = c.if-low-number.false in
    let is = c.in-Some.ensures.1 in
    sym (from_to_missing c.args.low c.args.high c.args.text.now (λ n spelled low high. let same = spelled.1 in omega arith))

pub returns-in_default-3 : goal.returns-in_default-3
returns-in_default-3 c =
    let fits = c.ranges.high.fits in
    let other = c.in_default.ensures in
    sym (from_to_missing c.args.low c.args.high c.args.text.now (λ n spelled low high. let same = spelled.1 in other (spelled.0, omega arith)))
