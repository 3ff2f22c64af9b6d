-- The fetch, and then the file.
use Rattle.std.proofs.Common.{ℕ, ◌∙◌, ap, arith}
use Rattle.chart_store.specs.Loaded.{FILE_LIMIT}
use Rattle.chart_store.specs.Staged.{staged_of}
use Rattle.chart_store.specs.Store.{count_of, state_of}
use Rattle.session_core.specs.Fetch.{file_in}
use Rattle.session_core.specs.Staging.{staging_at}
use Rattle.session_core.proofs.Begun.{stage-done, stage-refused, stage-unfetched, stage-within}
use Rattle.session_core.proofs.staging.stage.Goals as goal

pub returns-in_err-file-clause-found : goal.returns-in_err-file-clause-found
returns-in_err-file-clause-found g c =
    let found = c.in_err-file.ensures.found in (
      found.0,
      found.1,
      stage-unfetched (count_of c.args.store.now) (state_of c.args.store.now) (file_in FILE_LIMIT c.args.name (found.0 FILE_LIMIT c.args.name))
          c.from_residual.result c.in_err-file.field-0.0 c.from_residual.ensures.1 found.2,
      omega arith,
    )

pub returns-in_err-staged-clause-found : goal.returns-in_err-staged-clause-found
returns-in_err-staged-clause-found g c =
    let found = c.in_ok-file.ensures.found in (
      found.0,
      found.1,
      stage-refused (count_of c.args.store.now) (state_of c.args.store.now) (file_in FILE_LIMIT c.args.name (found.0 FILE_LIMIT c.args.name))
          c.in_ok-file.file found.2 c.from_residual-in_err-staged.result c.in_err-staged.field-0.0 c.from_residual-in_err-staged.ensures.1
          c.in_err-staged.ensures.staged,
      stage-within (count_of c.args.store.now) (state_of c.args.store.now) (file_in FILE_LIMIT c.args.name (found.0 FILE_LIMIT c.args.name))
          c.in_ok-file.file found.2 c.args.steps.now c.stage.new.steps c.stage.ensures.at_most,
    )

pub returns-clause-found : goal.returns-clause-found
returns-clause-found g c =
    let found = c.in_ok-file.ensures.found in (
      found.0,
      found.1,
      stage-done (count_of c.args.store.now) (state_of c.args.store.now) (file_in FILE_LIMIT c.args.name (found.0 FILE_LIMIT c.args.name))
          c.in_ok-file.file found.2 (staged_of c.in_ok-staged.staged) c.new.result c.in_ok-staged.ensures.staged
          (c.new.ensures ∙ ap (λ (count : ℕ). staging_at count (staged_of c.in_ok-staged.staged)) c.count.ensures),
      stage-within (count_of c.args.store.now) (state_of c.args.store.now) (file_in FILE_LIMIT c.args.name (found.0 FILE_LIMIT c.args.name))
          c.in_ok-file.file found.2 c.args.steps.now c.stage.new.steps c.stage.ensures.at_most,
    )
