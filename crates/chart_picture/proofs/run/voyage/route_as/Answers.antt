use Rattle.std.proofs.Common.{Err, List, Ok, subst, ℕ}
use Rattle.chart_picture.specs.Fetching.{IsRead}
use Rattle.chart_picture.specs.Files.{route_as}
use Rattle.chart_picture.proofs.Loading.{route-done, route-refused}
use Rattle.chart_picture.proofs.run.voyage.route_as.Goals as goal

pub returns-in-Ok : goal.returns-in-Ok
returns-in-Ok c =
    subst (λ (bytes : List ℕ). IsRead (Ok c.in-Ok.route) (route_as c.args.name.now bytes)) c.as_slice.ensures
    (route-done c.args.name.now c.as_slice.result.now c.in-Ok.route c.in-Ok.ensures)

pub returns-in-Err : goal.returns-in-Err
returns-in-Err c =
    subst (λ (bytes : List ℕ). IsRead (Err c.end_of_route.result) (route_as c.args.name.now bytes)) c.as_slice.ensures
    (route-refused c.args.name.now c.as_slice.result.now c.in-Err.fault c.end_of_route.result c.in-Err.ensures c.end_of_route.ensures)
