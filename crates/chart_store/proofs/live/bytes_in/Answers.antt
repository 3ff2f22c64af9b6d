-- Cells, one after the other.
use Rattle.std.proofs.Common.{◌≡◌, ap, arith, rules, ◌∙◌}
use Rattle.std.specs.FinMap as finite
use Rattle.chart_store.specs.Loaded.{bytes_of, live_bytes}
use Rattle.chart_store.proofs.Checkpoints.{bytes-go, bytes-part, entries_bytes}
use Rattle.chart_store.proofs.live.bytes_in.Goals as goal

pub loop-here-init : goal.loop-here-init
loop-here-init c =
    let all : c.into_iter-here-iterator.result ≡ finite.entries c.args.cells.now = search rules in
    let bytes : entries_bytes c.into_iter-here-iterator.result ≡ live_bytes c.args.cells.now = ap entries_bytes all in
    omega (arith, bytes)

pub bytes_of-sum-requires : goal.bytes_of-sum-requires
bytes_of-sum-requires c =
    omega (
      arith,
      c.requires,
      bytes-part c.loop-here.sum _ _ _ _ c.in-Some.ensures.steps c.loop-here.invariant,
      ap bytes_of c.as_slice.ensures,
    )

pub overflow_add-sum : goal.overflow_add-sum
overflow_add-sum c =
    omega (
      arith,
      c.requires,
      bytes-go c.loop-here.sum _ _ _ _ c.in-Some.ensures.steps c.loop-here.invariant c.bytes_of-sum.result
          (c.bytes_of-sum.ensures ∙ ap bytes_of c.as_slice.ensures),
    )

pub loop-here-preserved : goal.loop-here-preserved
loop-here-preserved c =
    bytes-go c.loop-here.sum _ _ _ _ c.in-Some.ensures.steps c.loop-here.invariant c.bytes_of-sum.result
    (c.bytes_of-sum.ensures ∙ ap bytes_of c.as_slice.ensures)

pub returns : goal.returns
returns c =
    let none : entries_bytes c.loop-here.here-iterator ≡ 0 = ap entries_bytes c.in-None.ensures.steps.0 in
    omega (arith, c.loop-here.invariant, none)
