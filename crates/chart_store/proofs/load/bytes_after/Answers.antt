-- What a file replaces is live.
use Rattle.std.proofs.Common.{arith, ◌∙◌, ap}
use Rattle.std.specs.Option.{option_copied}
use Rattle.std.specs.FinMap as map
use Rattle.chart_store.specs.Loaded.{HoldingsByKey, bytes_of, files_of}
use Rattle.chart_store.proofs.Holdings.{bytes_of-le-live_bytes, replaced_bytes-le}
use Rattle.chart_store.proofs.load.bytes_after.Goals as goal

pub replaced_bytes-requires : goal.replaced_bytes-requires
replaced_bytes-requires c =
    let same = c.get-before.ensures ∙ ap (λ (m : HoldingsByKey). map.get m c.args.key) c.cells.ensures.cells in
    omega (
      arith,
      c.bytes.ensures.bytes,
      c.bytes.ensures.within,
      bytes_of-le-live_bytes c.args.live.now.cells c.args.key,
      ap (λ o. bytes_of (files_of o)) same,
    )

pub overflow_sub-result : goal.overflow_sub-result
overflow_sub-result c =
    let same = c.get-before.ensures ∙ ap (λ (m : HoldingsByKey). map.get m c.args.key) c.cells.ensures.cells in
    omega (
      arith,
      c.bytes.ensures.bytes,
      c.replaced_bytes.ensures,
      bytes_of-le-live_bytes c.args.live.now.cells c.args.key,
      replaced_bytes-le (option_copied c.get-before.result) c.args.effect,
      ap (λ o. bytes_of (files_of o)) same,
    )
