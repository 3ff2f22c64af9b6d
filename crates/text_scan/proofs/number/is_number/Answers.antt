use Rattle.std.proofs.Common.{length, sym, ◌∙◌, arith}
use Rattle.std.proofs.lemmas.Bool.{eqb-false}
use Rattle.text_scan.proofs.Numbers.{is_number_iff}
use Rattle.text_scan.proofs.number.is_number.Goals as goal

pub returns-then-text-le-MOST_DIGITS : goal.returns-then-text-le-MOST_DIGITS
returns-then-text-le-MOST_DIGITS c =
    let text = c.args.text.now in
    let some = eqb-false (length text) 0 (sym c.is_empty.ensures ∙ c.if-text-le-MOST_DIGITS.true.0) in
    is_number_iff text c.are_digits.result (omega (arith, some)) (omega arith) c.are_digits.ensures
