use Rattle.std.proofs.Common.{ℕ, sym, ap, ◌∙◌, arith}
use Rattle.std.specs.Str.Parse.{digits_value_after}
use Rattle.common_lemmas.proofs.Digits.{value_short}
use Rattle.text_scan.proofs.Scans.{value_after-append}
use Rattle.text_scan.proofs.depth.amount.Goals as goal

pub append_digits-requires-2-clause-small : goal.append_digits-requires-2-clause-small
append_digits-requires-2-clause-small c =
    omega (arith, value_short c.args.whole.now 6 c.requires.whole_digits c.requires.short_whole, c.append_digits.ensures.value)

pub returns-clause-value : goal.returns-clause-value
returns-clause-value c =
    c.append_digits-2.ensures.value
    ∙ ap (λ (n : ℕ). digits_value_after 10 n c.args.decimals.now) c.append_digits.ensures.value
    ∙ sym (value_after-append 0 c.args.whole.now c.args.decimals.now)
