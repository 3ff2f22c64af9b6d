-- What is taken away is live.
use Rattle.std.proofs.Common.{ap, arith, ◌∙◌}
use Rattle.chart_store.specs.Loaded.{bytes_of}
use Rattle.chart_store.proofs.Holdings.{bytes_of-held, can-drop, found-there}
use Rattle.chart_store.proofs.command.next_of_drop.Goals as goal

pub bytes_of-requires : goal.bytes_of-requires
bytes_of-requires c =
    let there = found-there _ c.args.live.now.cells c.args.key _ c.in-Some.ensures c.cells.ensures.cells in
    omega (
      arith,
      c.bytes.ensures.bytes,
      c.bytes.ensures.within,
      bytes_of-held c.args.live.now.cells c.args.key c.in-Some.here.now there,
      ap bytes_of c.as_slice.ensures,
    )

pub overflow_sub-result : goal.overflow_sub-result
overflow_sub-result c =
    let there = found-there _ c.args.live.now.cells c.args.key _ c.in-Some.ensures c.cells.ensures.cells in
    omega (
      arith,
      c.bytes.ensures.bytes,
      c.bytes_of.ensures,
      bytes_of-held c.args.live.now.cells c.args.key c.in-Some.here.now there,
      ap bytes_of c.as_slice.ensures,
    )

pub returns-clause-stands : goal.returns-clause-stands
returns-clause-stands c =
    let there = found-there _ c.args.live.now.cells c.args.key _ c.in-Some.ensures c.cells.ensures.cells in
    can-drop c.args.live.now.cells c.args.key c.in-Some.here.now _ _ there c.bytes.ensures.bytes c.bytes.ensures.within
    (c.bytes_of.ensures ∙ ap bytes_of c.as_slice.ensures)
