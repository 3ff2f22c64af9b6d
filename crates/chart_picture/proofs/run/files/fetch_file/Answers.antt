-- What the shelf answers is read.
use Rattle.chart_picture.specs.Files.{file_in}
use Rattle.chart_picture.proofs.Fetching.{fetch-read, fetch-stop}
use Rattle.chart_picture.proofs.run.files.fetch_file.Goals as goal

pub returns-in_err-fetched : goal.returns-in_err-fetched
returns-in_err-fetched g c =
    fetch-stop g.L.Shelf.tells g.L.Shelf.files g.L.Shelf.faults _ _ c.in_err-fetched.field-0.0 _ c.from_residual.result
    c.from_residual.ensures.1 c.fetch.ensures.same c.fetch.ensures.later c.in_err-fetched.ensures.failed

pub returns : goal.returns
returns g c =
    fetch-read g.L.Shelf.tells g.L.Shelf.files g.L.Shelf.faults _ _ c.args.limit c.args.name.now c.in_ok-fetched.fetched
    (file_in c.args.place c.args.name.now c.args.limit) c.file_in.result c.in_ok-fetched.ensures.found c.fetch.ensures.same
    c.fetch.ensures.later c.file_in.ensures
