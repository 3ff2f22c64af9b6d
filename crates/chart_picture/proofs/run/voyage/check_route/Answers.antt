-- The route is fetched, and then its dangers are found.
use Rattle.std.proofs.Common.{Ok}
use Rattle.route_check.specs.declared.route.Route.{Route}
use Rattle.session_core.specs.Fetch.{Files}
use Rattle.chart_picture.specs.Files.{with_dangers}
use Rattle.chart_picture.proofs.Fetching.{done-read, no-memory, stop, then-read}
use Rattle.chart_picture.proofs.Loading.{checked-is}
use Rattle.chart_picture.proofs.run.voyage.check_route.Goals as goal

pub returns-in_err-route : goal.returns-in_err-route
returns-in_err-route g c =
    stop g.L.Shelf.tells g.L.Shelf.files g.L.Shelf.faults _ _ _
    (λ (fs : Files) (route : Route). Ok (with_dangers c.args.settings.now c.args.live.now route)) c.in_err-route.field-0.0
    c.from_residual.result c.from_residual.ensures.1 c.in_err-route.ensures

pub returns-in_err-dangers : goal.returns-in_err-dangers
returns-in_err-dangers g c =
    no-memory g.L.Shelf.tells g.L.Shelf.files g.L.Shelf.faults _ _ _ _ _ c.from_residual-in_err-dangers.result c.in_ok-route.ensures
    c.from_residual-in_err-dangers.ensures.1

pub returns : goal.returns
returns g c =
    then-read g.L.Shelf.tells g.L.Shelf.files g.L.Shelf.faults _ _ _
    (λ (route : Route). Ok (with_dangers c.args.settings.now c.args.live.now route)) c.in_ok-route.route _ c.in_ok-route.ensures
    (done-read _ _ (checked-is c.args.settings.now c.args.live.now c.in_ok-route.route c.in_ok-dangers.dangers c.in_ok-dangers.ensures))
