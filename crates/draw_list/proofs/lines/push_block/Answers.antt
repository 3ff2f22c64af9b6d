use Rattle.std.proofs.Common.{◌≡◌, ◌≤◌, ◌+◌, ◌++◌, ℕ, List, length, sym, subst, arith, length-append}
use Rattle.std.proofs.lemmas.Grind.{common_steps}
use Rattle.draw_list.specs.Lines.{block_lines}
use Rattle.draw_list.proofs.Printed.{items_fit}
use Rattle.draw_list.proofs.lines.push_block.Goals as goal

pub returns-clause-counted : goal.returns-clause-counted
returns-clause-counted c =
    let whole : c.loop-item.lines ≡ c.args.lines.now ++ block_lines c.args.drawn.now = grind (arith, common_steps) in
    subst (λ (lines : List ℕ). length c.args.lines.now + length c.args.drawn.now.block.items ≤ length lines) (sym whole)
    (omega (arith, items_fit c.args.drawn.now, length-append c.args.lines.now (block_lines c.args.drawn.now)))
