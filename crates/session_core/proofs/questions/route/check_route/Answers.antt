-- The fetch, and then the route.
use Rattle.std.proofs.Common.{Ok}
use Rattle.session_core.specs.Route.{ROUTE_LIMIT}
use Rattle.session_core.proofs.Checking.{route-refused, route-replied, route-unfetched}
use Rattle.session_core.proofs.questions.route.check_route.Goals as goal

pub returns-in_err-bytes-clause-found : goal.returns-in_err-bytes-clause-found
returns-in_err-bytes-clause-found g c =
    let found = c.in_err-bytes.ensures.found in
    (found.0, found.1, route-unfetched c.args.settings.now c.args.state.now c.args.name (found.0 ROUTE_LIMIT c.args.name) c.from_residual.result c.in_err-bytes.field-0.0 c.from_residual.ensures.1 found.2)

pub returns-in_err-route_reply-clause-found : goal.returns-in_err-route_reply-clause-found
returns-in_err-route_reply-clause-found g c =
    let found = c.in_ok-bytes.ensures.found in (
      found.0,
      found.1,
      route-refused c.args.settings.now c.args.state.now c.args.name (found.0 ROUTE_LIMIT c.args.name) c.from_residual-in_err-route_reply.result c.in_ok-bytes.bytes c.as_slice.result.now
          c.in_err-route_reply.field-0.0 c.from_residual-in_err-route_reply.ensures.1 found.2 c.as_slice.ensures c.in_err-route_reply.ensures,
    )

pub returns-clause-found : goal.returns-clause-found
returns-clause-found g c =
    let found = c.in_ok-bytes.ensures.found in (
      found.0,
      found.1,
      route-replied c.args.settings.now c.args.state.now c.args.name (found.0 ROUTE_LIMIT c.args.name) (Ok c.in_ok-route_reply.field-0) c.in_ok-bytes.bytes c.as_slice.result.now
          c.in_ok-route_reply.field-0 found.2 c.as_slice.ensures c.in_ok-route_reply.ensures,
    )
