-- The charts that are held are drawn in the view and the colours, with the route over them.
use Rattle.picture_words.specs.Reading.{value_of}
use Rattle.chart_picture.proofs.Running.{drawn-of}
use Rattle.chart_picture.proofs.run.picture.draw.Goals as goal

pub returns : goal.returns
returns g c =
    drawn-of (value_of c.args.words.now) c.args.material.now c.view_of-view.result c.in_ok-look.look c.cells.result.now _
    c.document_of.result c.cells.ensures.cells c.as_ref.ensures.value c.view_of-view.ensures c.in_ok-look.ensures c.document_of.ensures
