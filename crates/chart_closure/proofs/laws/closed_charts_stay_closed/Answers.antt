use Rattle.std.proofs.Common.{false}
use Rattle.chart_closure.proofs.Unchanged.{chart_stays}
use Rattle.chart_closure.proofs.laws.closed_charts_stay_closed.Goals as goal

pub returns : goal.returns
returns c = λ before after closed keeps looked. chart_stays before after
    (record {
      records = keeps;
      line = λ name. c.shapes_are_kept.ensures.line before after name false keeps.vectors;
      shape = λ feature. c.shapes_are_kept.ensures.shape before after feature keeps.vectors;
    })
    closed looked
