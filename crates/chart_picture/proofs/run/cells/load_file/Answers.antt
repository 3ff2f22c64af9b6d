-- The file is fetched, and loaded.
use Rattle.session_core.specs.Fetch.{Files}
use Rattle.chart_picture.specs.Files.{taken_as}
use Rattle.chart_picture.specs.declared.run.end.Place.TheVariants.{Cell}
use Rattle.chart_picture.proofs.Fetching.{stop, then-read}
use Rattle.chart_picture.proofs.run.cells.load_file.Goals as goal

pub returns-in_err-file : goal.returns-in_err-file
returns-in_err-file g c =
    stop g.L.Shelf.tells g.L.Shelf.files g.L.Shelf.faults _ _ _
    (λ (fs : Files). taken_as (Cell c.args.number) c.args.name.now c.args.live) c.in_err-file.field-0.0 c.from_residual.result
    c.from_residual.ensures.1 c.in_err-file.ensures

pub returns : goal.returns
returns g c =
    then-read g.L.Shelf.tells g.L.Shelf.files g.L.Shelf.faults _ _ _ (taken_as (Cell c.args.number) c.args.name.now c.args.live)
    c.in_ok-file.file c.take_file.result c.in_ok-file.ensures c.take_file.ensures
