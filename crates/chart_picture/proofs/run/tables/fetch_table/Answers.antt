-- The table is fetched behind the catalogue.
use Rattle.std.proofs.Common.{ℕ, List}
use Rattle.chart_ports.specs.Fetched.{fetched_of}
use Rattle.object_catalogue.specs.Codes.{CatalogueValue}
use Rattle.picture_words.specs.Reading.{value_of}
use Rattle.session_core.specs.Fetch.{Files}
use Rattle.chart_picture.specs.Tables.{TABLES_LIMIT, catalogue_by, lines_by}
use Rattle.chart_picture.proofs.Fetching.{named, stop, then-fetch}
use Rattle.chart_picture.proofs.run.tables.fetch_table.Goals as goal

pub returns-in_err-catalogue : goal.returns-in_err-catalogue
returns-in_err-catalogue g c =
    let words = value_of c.args.words.now in
    stop g.L.Shelf.tells g.L.Shelf.files g.L.Shelf.faults _ _
    (λ (fs : Files). catalogue_by (fetched_of TABLES_LIMIT (fs words.catalogue)))
    (λ (fs : Files) (catalogue : CatalogueValue). lines_by catalogue (fetched_of TABLES_LIMIT (fs words.table)))
    c.in_err-catalogue.field-0.0 c.from_residual.result c.from_residual.ensures.1
    (named g.L.Shelf.tells g.L.Shelf.files g.L.Shelf.faults _ _ _
    (λ (name : List ℕ) (fs : Files). catalogue_by (fetched_of TABLES_LIMIT (fs name))) c.as_str.result.now words.catalogue
    c.as_str.ensures.value c.in_err-catalogue.ensures)

pub returns : goal.returns
returns g c =
    let words = value_of c.args.words.now in
    then-fetch g.L.Shelf.tells g.L.Shelf.files g.L.Shelf.faults _ _ _
    (λ (fs : Files). catalogue_by (fetched_of TABLES_LIMIT (fs words.catalogue)))
    (λ (fs : Files) (catalogue : CatalogueValue). lines_by catalogue (fetched_of TABLES_LIMIT (fs words.table)))
    c.in_ok-catalogue.catalogue c.fetch_lines.result
    (named g.L.Shelf.tells g.L.Shelf.files g.L.Shelf.faults _ _ _
    (λ (name : List ℕ) (fs : Files). catalogue_by (fetched_of TABLES_LIMIT (fs name))) c.as_str.result.now words.catalogue
    c.as_str.ensures.value c.in_ok-catalogue.ensures)
    (named g.L.Shelf.tells g.L.Shelf.files g.L.Shelf.faults _ _ _
    (λ (name : List ℕ) (fs : Files). lines_by c.in_ok-catalogue.catalogue (fetched_of TABLES_LIMIT (fs name)))
    c.as_str-2.result.now words.table c.as_str-2.ensures.value c.fetch_lines.ensures)
