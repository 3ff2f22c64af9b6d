use Rattle.std.proofs.Common.{refl, sym, ◌∙◌, arith, add-zero}
use Rattle.update_sequence.specs.Rebuilt.{rebuilt}
use Rattle.update_sequence.proofs.Rebuilding.{rebuilt-with, data_records-next, data_records-within, builds-next}
use Rattle.update_sequence.proofs.files.rebuild.Goals as goal

pub loop-file-init : goal.loop-file-init
unfolding rebuilt
loop-file-init g c = record { chart = refl; steps = sym (add-zero _) }

pub follow-requires : goal.follow-requires
follow-requires g c =
    let below = rw c.as_slice-file-items.ensures at c.loop-file-test.true in
    let item = rw c.as_slice-file-items.ensures at c.file-item.is in
    let reads = rw c.get.ensures at (rw c.as_slice.ensures at c.in-Ok.ensures.exact) in
    λ stands. rw c.loop-file.invariant.chart (builds-next c.requires.0 c.args.files.now c.requires.1 c.loop-file.file-index c.file-item.result below item c.in-Ok.dataset reads stands)

pub returns-in_err-chart-clause-at_most : goal.returns-in_err-chart-clause-at_most
returns-in_err-chart-clause-at_most g c =
    let below = rw c.as_slice-file-items.ensures at c.loop-file-test.true in
    let item = rw c.as_slice-file-items.ensures at c.file-item.is in
    let raised = rw c.get.ensures at (rw c.as_slice.ensures at c.read_data_set.ensures.at_most) in
    omega (arith, raised, c.loop-file.invariant.steps, data_records-within c.args.files.now c.loop-file.file-index c.file-item.result below item)

pub loop-file-preserved : goal.loop-file-preserved
loop-file-preserved g c =
    let below = rw c.as_slice-file-items.ensures at c.loop-file-test.true in
    let item = rw c.as_slice-file-items.ensures at c.file-item.is in
    let reads = rw c.get.ensures at (rw c.as_slice.ensures at c.in-Ok.ensures.exact) in
    let raised = rw c.get.ensures at (rw c.as_slice.ensures at (c.in-Ok.ensures.come_to (λ e. cc))) in
    record {
      chart = c.in_ok-chart.ensures ∙ rebuilt-with c.args.files.now c.loop-file.file-index c.file-item.result below item c.in-Ok.dataset reads c.loop-file.chart c.loop-file.invariant.chart;
      steps = omega (arith, raised, c.loop-file.invariant.steps, data_records-next c.args.files.now c.loop-file.file-index c.file-item.result below item);
    }
