use Rattle.std.proofs.Common.{rules}
use Rattle.std.proofs.lemmas.List.Sorted.{answers_always}
use Rattle.draw_list.specs.Drawing.{key_of}
use Rattle.draw_list.proofs.Orders.{sorted_by_keys, drawing_by}
use Rattle.draw_list.proofs.Placed.{drawing_is}
use Rattle.draw_list.proofs.drawing.draw_cell.Goals as goal

pub returns-clause-drawing : goal.returns-clause-drawing
returns-clause-drawing c =
    let sorted = c.in_ok-sort_by_key.ensures.sorted key_of (answers_always _ _ _ (λ f a r h called. search rules)) in
    drawing_by c.args.cell.now c.args.table.now c.args.settings.now c.in_ok-blocks.blocks.items c.sort_by_key.new.self.items c.from_vec.result
    c.in_ok-blocks.ensures.blocks c.from_vec.ensures c.in_ok-sort_by_key.ensures.permutation
    (sorted_by_keys c.sort_by_key.new.self.items sorted)

pub returns-clause-function : goal.returns-clause-function
returns-clause-function c =
    drawing_is c.args.cell.now c.args.table.now c.args.settings.now c.from_vec.result c.in_ok-blocks.ensures.cell
    (returns-clause-drawing c)
