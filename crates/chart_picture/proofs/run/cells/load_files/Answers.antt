-- The next file is loaded, or it isn't; or none is left.
use Rattle.std.proofs.Common.{◌+◌, ◌∙◌, arith}
use Rattle.std.specs.Prelude.{string_bytes}
use Rattle.chart_picture.proofs.Loading.{load-ends, load-goes, load-stops}
use Rattle.chart_picture.proofs.run.cells.load_files.Goals as goal

pub returns-in_err-live : goal.returns-in_err-live
returns-in_err-live g c =
    let walk = c.loop-name.invariant in
    load-stops g.L.Shelf.tells g.L.Shelf.files g.L.Shelf.faults c.args.shelf.now string_bytes c.args.names.now c.loop-name.shelf
    c.load_file.new.shelf c.loop-name.live (c.loop-name.number + 1) c.loop-name.name-index c.name-item.result c.as_str.result.now
    c.in_err-live.field-0.0 c.from_residual.result c.loop-name-test.true c.name-item.is c.as_str.ensures.value walk.stay walk.later walk.rest
    c.from_residual.ensures.1 c.in_err-live.ensures

pub loop-name-preserved : goal.loop-name-preserved
loop-name-preserved g c =
    let walk = c.loop-name.invariant in
    let read = c.in_ok-live.ensures in
    record {
      counted = omega (arith, walk.counted);
      stay = λ t. read.files_stay t ∙ walk.stay t;
      later = let first = walk.later in let next = read.later in omega (arith, first, next);
      rest =
          load-goes g.L.Shelf.tells g.L.Shelf.files g.L.Shelf.faults c.args.shelf.now string_bytes c.args.names.now c.loop-name.shelf
          c.load_file.new.shelf c.loop-name.live (c.loop-name.number + 1) c.loop-name.name-index c.name-item.result c.as_str.result.now
          c.in_ok-live.live c.loop-name-test.true c.name-item.is c.as_str.ensures.value walk.stay walk.rest read;
    }

pub returns : goal.returns
returns g c =
    let walk = c.loop-name.invariant in
    load-ends g.L.Shelf.tells g.L.Shelf.files g.L.Shelf.faults c.args.shelf.now string_bytes c.args.names.now c.loop-name.shelf
    c.loop-name.live (c.loop-name.number + 1) c.loop-name.name-index c.loop-name-test.false walk.stay walk.later walk.rest
