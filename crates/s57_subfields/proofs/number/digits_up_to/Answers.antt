use Rattle.std.proofs.Common.{◌≡◌, ◌∙◌, ◌+◌, ◌*◌, ℕ, sym, ap, arith, rules, drop, get_or, true}
use Rattle.std.proofs.lemmas.Bool.Decides.{nat_tests}
use Rattle.std.specs.Char.{is_ascii_digit, digit_value}
use Rattle.common_lemmas.proofs.Digits.{digit_value-digit}
use Rattle.s57_subfields.proofs.Digits.{scanned, digits_up_to-none, digits_up_to-is, scanned-other, scanned-over, scanned-more, scanned-all}
use Rattle.s57_subfields.proofs.number.digits_up_to.Goals as goal

pub returns-then-is_empty-clause-found : goal.returns-then-is_empty-clause-found
returns-then-is_empty-clause-found c = sym (digits_up_to-none c.args.most c.args.text.now (search rules))

pub returns-then-not-is_ascii_digit-clause-found : goal.returns-then-not-is_ascii_digit-clause-found
returns-then-not-is_ascii_digit-clause-found c =
    let l = c.loop-byte in
    let text = c.args.text.now in
    sym (digits_up_to-is c.args.most text (omega arith) ∙ sym l.invariant.goes_on ∙ scanned-other c.args.most l.number text l.byte-index (omega arith) (search rules))

pub returns-then-number-from-clause-found : goal.returns-then-number-from-clause-found
returns-then-number-from-clause-found c =
    let l = c.loop-byte in
    let text = c.args.text.now in
    let digit : is_ascii_digit (get_or text l.byte-index 0) ≡ true = search rules in
    let value = digit_value-digit (get_or text l.byte-index 0) digit in
    sym (digits_up_to-is c.args.most text (omega arith) ∙ sym l.invariant.goes_on ∙ scanned-over c.args.most l.number text l.byte-index (omega arith) digit (omega (arith, value.0)))

pub loop-byte-preserved : goal.loop-byte-preserved
loop-byte-preserved c =
    let l = c.loop-byte in
    let text = c.args.text.now in
    let most = c.args.most in
    let digit : is_ascii_digit (get_or text l.byte-index 0) ≡ true = search rules in
    let value = digit_value-digit (get_or text l.byte-index 0) digit in
    let same : c.from.result ≡ digit_value (get_or text l.byte-index 0) = omega (arith, value.0) in
    record {
      within = omega arith;
      goes_on = ap (λ (k : ℕ). scanned most (l.number * 10 + k) (drop (l.byte-index + 1) text)) same
          ∙ sym (scanned-more most l.number text l.byte-index (omega arith) digit (omega (arith, value.0)))
          ∙ l.invariant.goes_on;
    }

pub returns-clause-found : goal.returns-clause-found
returns-clause-found c =
    let l = c.loop-byte in
    sym (digits_up_to-is c.args.most c.args.text.now (grind (arith, nat_tests)) ∙ sym l.invariant.goes_on ∙ scanned-all c.args.most l.number c.args.text.now l.byte-index (omega arith))
