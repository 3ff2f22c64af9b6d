-- The file is fetched, and read.
use Rattle.std.proofs.Common.{ℕ, List, subst}
use Rattle.session_core.specs.Fetch.{Files}
use Rattle.chart_picture.specs.Fetching.{IsRead}
use Rattle.chart_picture.specs.Tables.{lines_of}
use Rattle.chart_picture.proofs.Fetching.{stop, then-read}
use Rattle.chart_picture.proofs.run.tables.fetch_lines.Goals as goal

pub returns-in_err-file : goal.returns-in_err-file
returns-in_err-file g c =
    stop g.L.Shelf.tells g.L.Shelf.files g.L.Shelf.faults _ _ _ (λ (fs : Files). lines_of c.args.catalogue.now) c.in_err-file.field-0.0
    c.from_residual.result c.from_residual.ensures.1 c.in_err-file.ensures

pub returns : goal.returns
returns g c =
    then-read g.L.Shelf.tells g.L.Shelf.files g.L.Shelf.faults _ _ _ (lines_of c.args.catalogue.now) c.in_ok-file.file c.lines_of.result
    c.in_ok-file.ensures
    (subst (λ (bytes : List ℕ). IsRead c.lines_of.result (lines_of c.args.catalogue.now bytes)) c.as_slice.ensures c.lines_of.ensures)
