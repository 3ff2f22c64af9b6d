use Rattle.std.proofs.Common.{◌+◌, ◌*◌, ℕ, ◌^◌, ◌<◌, ap, subst, ◌∙◌, arith}
use Rattle.text_scan.proofs.Scans.{digit_at, value_after-more, below-more, below_limit}
use Rattle.text_scan.proofs.digits.append_digits.Goals as goal

pub overflow_mul-value : goal.overflow_mul-value
overflow_mul-value c =
    omega (arith, below_limit c.loop-digit.value (6 + c.loop-digit.digit-index) c.loop-digit.invariant.1 (omega arith))

pub overflow_sub-digit : goal.overflow_sub-digit
overflow_sub-digit c = omega (arith, digit_at c.args.digits.now c.loop-digit.digit-index (omega arith) c.requires.all)

pub overflow_add-value : goal.overflow_add-value
overflow_add-value c =
    omega (arith, below_limit c.loop-digit.value (6 + c.loop-digit.digit-index) c.loop-digit.invariant.1 (omega arith))

pub loop-digit-preserved : goal.loop-digit-preserved
loop-digit-preserved c =
    let l = c.loop-digit in
    let digits = c.args.digits.now in
    let digit = digit_at digits l.digit-index (omega arith) c.requires.all in
    (ap (λ (d : ℕ). l.value * 10 + d) c.from.ensures ∙ value_after-more c.args.start l.value digits l.digit-index (omega arith) c.requires.all l.invariant.0, subst (λ (k : ℕ). l.value * 10 + c.from.result < 10 ^ k) (omega arith) (below-more l.value c.from.result (6 + l.digit-index) l.invariant.1 (omega (arith, digit))))
