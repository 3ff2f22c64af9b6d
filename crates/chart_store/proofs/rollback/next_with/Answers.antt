-- What is kept begins the files that are held.
use Rattle.std.proofs.Common.{Some, ap, arith, ◌∙◌}
use Rattle.chart_store.specs.Loaded.{bytes_of}
use Rattle.chart_store.proofs.Holdings.{bytes_of-held, can-keep}
use Rattle.chart_store.proofs.Keeping.{kept-begins, bytes-kept}
use Rattle.chart_store.proofs.Placing.{closed-held-if, live-held}
use Rattle.chart_store.proofs.rollback.next_with.Goals as goal

pub bytes_of-requires : goal.bytes_of-requires
bytes_of-requires c =
    omega (
      arith,
      c.bytes.ensures.bytes,
      c.bytes.ensures.within,
      bytes_of-held c.args.live.now.cells c.args.key c.args.here.now c.requires.here,
      ap bytes_of c.as_slice.ensures,
    )

pub overflow_sub-bytes : goal.overflow_sub-bytes
overflow_sub-bytes c =
    omega (
      arith,
      c.bytes.ensures.bytes,
      c.bytes_of.ensures,
      bytes_of-held c.args.live.now.cells c.args.key c.args.here.now c.requires.here,
      ap bytes_of c.as_slice.ensures,
    )

pub bytes_of-requires-2 : goal.bytes_of-requires-2
bytes_of-requires-2 c =
    let held = bytes_of-held c.args.live.now.cells c.args.key c.args.here.now c.requires.here in
    let kept = bytes-kept _ _ _ _ c.requires.kept.1 in
    omega (arith, c.bytes.ensures.bytes, c.bytes.ensures.within, held, kept, ap bytes_of c.as_slice-2.ensures)

pub overflow_add-bytes : goal.overflow_add-bytes
overflow_add-bytes c =
    let held = bytes_of-held c.args.live.now.cells c.args.key c.args.here.now c.requires.here in
    let kept = bytes-kept _ _ _ _ c.requires.kept.1 in
    omega (
      arith,
      c.bytes.ensures.bytes,
      c.bytes.ensures.within,
      c.bytes_of.ensures ∙ ap bytes_of c.as_slice.ensures,
      c.bytes_of-2.ensures ∙ ap bytes_of c.as_slice-2.ensures,
      held,
      kept,
    )

pub returns-clause-stands : goal.returns-clause-stands
returns-clause-stands c =
    let b = kept-begins c.args.key c.requires.kept.0 c.args.here.now.files c.args.kept.files c.requires.kept.1 in
    can-keep c.args.live.now.cells c.args.key c.args.here.now c.args.kept b.rest _ _ _ c.requires.here b.begins
    (live-held c.sequences_are_held.ensures.held c.args.key c.args.kept c.requires.live)
    (closed-held-if c.sequences_are_held.ensures.closed c.args.key (Some c.args.kept) c.requires.live)
    c.bytes.ensures.bytes c.bytes.ensures.within (c.bytes_of.ensures ∙ ap bytes_of c.as_slice.ensures)
    (c.bytes_of-2.ensures ∙ ap bytes_of c.as_slice-2.ensures)
