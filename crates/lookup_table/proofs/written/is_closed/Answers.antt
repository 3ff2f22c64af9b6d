use Rattle.std.proofs.Common.{◌≡◌, ◌≢◌, ◌-◌, true, false, eqb, length, get_or, take, sym, ◌∙◌, arith}
use Rattle.std.specs.List.{list_all}
use Rattle.std.proofs.lemmas.Bool.Decides.{nat_tests}
use Rattle.lookup_table.specs.Written.{is_plain}
use Rattle.lookup_table.proofs.Closed.{closed-last, closed-none, and-true, and-false}
use Rattle.lookup_table.proofs.written.is_closed.Goals as goal

pub returns-in-41 : goal.returns-in-41
returns-in-41 c =
    let text = c.args.text.now in
    let is : get_or text (length text - 1) 0 ≡ 41 = omega arith in
    let closes : eqb (get_or text (length text - 1) 0) 41 ≡ true = grind (arith, nat_tests) in
    c.are_plain.ensures ∙ sym (closed-last text c.in-41.len_at_least ∙ and-true (list_all is_plain (take (length text - 1) text)) (eqb (get_or text (length text - 1) 0) 41) closes)

pub returns-in_default : goal.returns-in_default
returns-in_default c = sym (closed-none c.args.text.now (omega arith))

pub returns-in_default-2 : goal.returns-in_default-2
returns-in_default-2 c =
    let text = c.args.text.now in
    let other : get_or text (length text - 1) 0 ≢ 41 = λ e. omega arith in
    let open_end : eqb (get_or text (length text - 1) 0) 41 ≡ false = grind (arith, nat_tests) in
    sym (closed-last text c.in_default.len_at_least ∙ and-false (list_all is_plain (take (length text - 1) text)) (eqb (get_or text (length text - 1) 0) 41) open_end)
