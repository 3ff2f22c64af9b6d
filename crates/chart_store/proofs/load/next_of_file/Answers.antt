-- A file that isn't staged isn't loaded.
use Rattle.chart_store.specs.Next.{outcome_by}
use Rattle.chart_store.proofs.Stages.{fails-loaded, passed-on}
use Rattle.chart_store.proofs.load.next_of_file.Goals as goal

pub returns-in_err-file-clause-after : goal.returns-in_err-file-clause-after
returns-in_err-file-clause-after g c =
    passed-on (outcome_by c.args.live.now) c.from_residual.result c.in_err-file.field-0.0 _ c.from_residual.ensures.1
    (fails-loaded c.args.live.now c.args.file c.in_err-file.field-0.0 c.in_err-file.ensures.staged)
