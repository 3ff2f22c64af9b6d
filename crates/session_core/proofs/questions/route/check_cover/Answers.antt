-- The fetch, and then the route.
use Rattle.std.proofs.Common.{Ok}
use Rattle.session_core.specs.Route.{ROUTE_LIMIT}
use Rattle.session_core.proofs.Checking.{cover-refused, cover-replied, cover-unfetched}
use Rattle.session_core.proofs.questions.route.check_cover.Goals as goal

pub returns-in_err-bytes-clause-found : goal.returns-in_err-bytes-clause-found
returns-in_err-bytes-clause-found g c =
    let found = c.in_err-bytes.ensures.found in
    (found.0, found.1, cover-unfetched c.args.state.now c.args.name (found.0 ROUTE_LIMIT c.args.name) c.from_residual.result c.in_err-bytes.field-0.0 c.from_residual.ensures.1 found.2)

pub returns-in_err-cover_reply-clause-found : goal.returns-in_err-cover_reply-clause-found
returns-in_err-cover_reply-clause-found g c =
    let found = c.in_ok-bytes.ensures.found in (
      found.0,
      found.1,
      cover-refused c.args.state.now c.args.name (found.0 ROUTE_LIMIT c.args.name) c.from_residual-in_err-cover_reply.result c.in_ok-bytes.bytes c.as_slice.result.now
          c.in_err-cover_reply.field-0.0 c.from_residual-in_err-cover_reply.ensures.1 found.2 c.as_slice.ensures c.in_err-cover_reply.ensures,
    )

pub returns-clause-found : goal.returns-clause-found
returns-clause-found g c =
    let found = c.in_ok-bytes.ensures.found in (
      found.0,
      found.1,
      cover-replied c.args.state.now c.args.name (found.0 ROUTE_LIMIT c.args.name) (Ok c.in_ok-cover_reply.field-0) c.in_ok-bytes.bytes c.as_slice.result.now
          c.in_ok-cover_reply.field-0 found.2 c.as_slice.ensures c.in_ok-cover_reply.ensures,
    )
