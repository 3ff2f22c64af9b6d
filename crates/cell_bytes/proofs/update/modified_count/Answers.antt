-- The next area is modified, and counted, or not.
use Rattle.std.proofs.Common.{◌∙◌, ap, sym, arith, ◌+◌}
use Rattle.cell_bytes.proofs.Modified.{none_modified, modified_in, modified_out}
use Rattle.cell_bytes.proofs.update.modified_count.Goals as goal
use Rattle.cell_bytes.proofs.update.modified_count.Goals.{then-before-update, else-before-update}

pub loop-before-init : goal.loop-before-init
loop-before-init c = record { counted = sym (none_modified c.args.update); most = omega arith }

pub loop-before-preserved : goal.loop-before-preserved
loop-before-preserved c =
    let so_far = c.loop-before.invariant in
    elim c.if-before-update.branch [
      | then-before-update w ↦ record {
        counted = w.count-is ∙ ap (λ n. n + 1) so_far.counted ∙ sym (modified_in c.args.update c.loop-before.before w.if-before-update.true);
        most = omega (arith, w.count-is, so_far.most);
      }
      | else-before-update w ↦ record {
        counted = w.count-is ∙ so_far.counted ∙ sym (modified_out c.args.update c.loop-before.before w.if-before-update.false);
        most = omega (arith, w.count-is, so_far.most);
      }
    ]
