use Rattle.std.proofs.Common.{sym, arith, rules}
use Rattle.common_lemmas.proofs.Digits.{all_ascii_digits-more, all_ascii_digits-other}
use Rattle.text_scan.proofs.digits.are_digits.Goals as goal

pub returns-then-not-is_ascii_digit : goal.returns-then-not-is_ascii_digit
returns-then-not-is_ascii_digit c =
    sym (all_ascii_digits-other c.args.text.now c.loop-byte.byte-index (omega arith) (search rules))

pub loop-byte-preserved : goal.loop-byte-preserved
loop-byte-preserved c =
    all_ascii_digits-more c.args.text.now c.loop-byte.byte-index (omega arith) c.loop-byte.invariant (search rules)
