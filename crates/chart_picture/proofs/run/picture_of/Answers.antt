-- What the picture is drawn from is gathered, and then it is drawn.
use Rattle.picture_words.specs.Reading.{value_of}
use Rattle.chart_picture.proofs.Running.{is-drawn, not-drawn, not-gathered}
use Rattle.chart_picture.proofs.run.picture_of.Goals as goal

pub returns-in_err-material : goal.returns-in_err-material
returns-in_err-material g c =
    not-gathered g.L.Shelf.tells g.L.Shelf.files g.L.Shelf.faults (value_of c.args.words.now) _ _ c.in_err-material.field-0.0
    c.from_residual.result c.from_residual.ensures.1 c.in_err-material.ensures

pub returns-in_err-document : goal.returns-in_err-document
returns-in_err-document g c =
    not-drawn g.L.Shelf.tells g.L.Shelf.files g.L.Shelf.faults (value_of c.args.words.now) _ _ c.in_ok-material.material
    c.from_residual-in_err-document.result c.from_residual-in_err-document.ensures.1 c.in_ok-material.ensures

pub returns : goal.returns
returns g c =
    is-drawn g.L.Shelf.tells g.L.Shelf.files g.L.Shelf.faults (value_of c.args.words.now) _ _ c.in_ok-material.material
    c.in_ok-document.document c.in_ok-material.ensures c.in_ok-document.ensures
