-- The file is fetched, and read.
use Rattle.std.proofs.Common.{ℕ, List, subst}
use Rattle.session_core.specs.Fetch.{Files}
use Rattle.chart_picture.specs.Fetching.{IsRead}
use Rattle.chart_picture.specs.Tables.{catalogue_of}
use Rattle.chart_picture.proofs.Fetching.{stop, then-read}
use Rattle.chart_picture.proofs.run.tables.fetch_catalogue.Goals as goal

pub returns-in_err-file : goal.returns-in_err-file
returns-in_err-file g c =
    stop g.L.Shelf.tells g.L.Shelf.files g.L.Shelf.faults _ _ _ (λ (fs : Files). catalogue_of) c.in_err-file.field-0.0
    c.from_residual.result c.from_residual.ensures.1 c.in_err-file.ensures

pub returns : goal.returns
returns g c =
    then-read g.L.Shelf.tells g.L.Shelf.files g.L.Shelf.faults _ _ _ (catalogue_of) c.in_ok-file.file c.catalogue_of.result
    c.in_ok-file.ensures
    (subst (λ (bytes : List ℕ). IsRead c.catalogue_of.result (catalogue_of bytes)) c.as_slice.ensures c.catalogue_of.ensures)
