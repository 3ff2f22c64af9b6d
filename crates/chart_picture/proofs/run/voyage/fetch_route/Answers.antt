-- The file is fetched, and read.
use Rattle.session_core.specs.Fetch.{Files}
use Rattle.chart_picture.specs.Files.{route_as}
use Rattle.chart_picture.proofs.Fetching.{stop, then-read}
use Rattle.chart_picture.proofs.run.voyage.fetch_route.Goals as goal

pub returns-in_err-file : goal.returns-in_err-file
returns-in_err-file g c =
    stop g.L.Shelf.tells g.L.Shelf.files g.L.Shelf.faults _ _ _ (λ (fs : Files). route_as c.args.name.now) c.in_err-file.field-0.0
    c.from_residual.result c.from_residual.ensures.1 c.in_err-file.ensures

pub returns : goal.returns
returns g c =
    then-read g.L.Shelf.tells g.L.Shelf.files g.L.Shelf.faults _ _ _ (route_as c.args.name.now) c.in_ok-file.file c.route_as.result
    c.in_ok-file.ensures c.route_as.ensures
