use Rattle.std.proofs.Common.{Option, sym, subst, ◌≡◌}
use Rattle.std.specs.Prelude.{IfOk}
use Rattle.lookup_table.specs.declared.written.WrittenCondition.{WrittenCondition}
use Rattle.text_lines.proofs.Parting.{cut_gives}
use Rattle.lookup_table.proofs.Words.{condition_cut}
use Rattle.lookup_table.proofs.written.read_condition.Goals as goal

pub returns-in-Some : goal.returns-in-Some
returns-in-Some c =
    let cut = cut_gives 61 c.cut_part.result.1 c.in-Some.test c.args.text.now c.cut_part.result.0.now c.in-Some.is c.cut_part.ensures.more in
    subst (λ (o : Option WrittenCondition). IfOk c.read_sides.result (λ condition. condition ≡ o)) (sym (condition_cut c.args.text.now c.cut_part.result.0.now c.in-Some.test.now cut)) c.read_sides.ensures
