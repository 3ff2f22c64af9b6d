-- The file is staged, unless one is.
use Rattle.std.proofs.Common.{false, sym, ◌∙◌, arith}
use Rattle.std.specs.Prelude.{option_map}
use Rattle.chart_store.specs.Loaded.{FILE_LIMIT}
use Rattle.chart_store.specs.Store.{count_of, state_of}
use Rattle.session_core.specs.Fetch.{fetches_of, file_in}
use Rattle.session_core.specs.Session.{staging_of}
use Rattle.session_core.proofs.Begun.{begun-gives, busy-gives, stage-most, staged-none, staged-some, unbegun-gives}
use Rattle.session_core.proofs.Fetching.{are-served}
use Rattle.session_core.proofs.staging.begin.Goals as goal

pub returns-then-is_some-clause-given : goal.returns-then-is_some-clause-given
returns-then-is_some-clause-given g c = (
  fetches_of (g.L.Shelf.files c.args.shelf.now) false,
  are-served g.L.Shelf.tells (g.L.Shelf.files c.args.shelf.now) _ _,
  λ model held counted is.
      busy-gives model (count_of c.args.store.now) (state_of c.args.store.now) c.args.name
      (fetches_of (g.L.Shelf.files c.args.shelf.now) false FILE_LIMIT c.args.name) (option_map staging_of c.args.staging.now) held counted is
      (staged-some c.args.staging.now (sym c.is_some.ensures ∙ c.if-is_some.true)),
  omega arith,
)

pub returns-in_err-begun-clause-given : goal.returns-in_err-begun-clause-given
returns-in_err-begun-clause-given g c =
    let found = c.in_err-begun.ensures.found in
    let none = staged-none c.args.staging.now (sym c.is_some.ensures ∙ c.if-is_some.false) in (
      found.0,
      found.1,
      λ model held counted is.
          unbegun-gives model (count_of c.args.store.now) (state_of c.args.store.now) c.args.name (found.0 FILE_LIMIT c.args.name)
          (option_map staging_of c.args.staging.now) held counted is c.from_residual.result c.in_err-begun.field-0.0 none c.from_residual.ensures.1 found.2,
      stage-most (option_map staging_of c.args.staging.now) (file_in FILE_LIMIT c.args.name (found.0 FILE_LIMIT c.args.name)) c.args.steps.now c.stage.new.steps
          none found.3,
    )

pub returns-clause-given : goal.returns-clause-given
returns-clause-given g c =
    let found = c.in_ok-begun.ensures.found in
    let none = staged-none c.args.staging.now (sym c.is_some.ensures ∙ c.if-is_some.false) in (
      found.0,
      found.1,
      λ model held counted is.
          begun-gives model (count_of c.args.store.now) (state_of c.args.store.now) c.args.name (found.0 FILE_LIMIT c.args.name)
          (option_map staging_of c.args.staging.now) held counted is (staging_of c.in_ok-begun.begun) c.key.result.now c.total.result none found.2
          c.key.ensures c.total.ensures,
      stage-most (option_map staging_of c.args.staging.now) (file_in FILE_LIMIT c.args.name (found.0 FILE_LIMIT c.args.name)) c.args.steps.now c.stage.new.steps
          none found.3,
    )

pub returns-clause-on : goal.returns-clause-on
returns-clause-on g c = λ stood. c.in_ok-begun.ensures.on
