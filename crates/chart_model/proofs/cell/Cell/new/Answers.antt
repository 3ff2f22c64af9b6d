use Rattle.std.proofs.Common.{sym, subst}
use Rattle.chart_model.specs.Cell.{IsVector, IsFeature}
use Rattle.chart_model.specs.Names.{name_cmp}
use Rattle.chart_model.proofs.Maps.{Each, each-empty}
use Rattle.chart_model.proofs.cell.Cell.new.Goals as goal

pub invariant_of-result : goal.invariant_of-result
invariant_of-result c = record {
  header = c.requires;
  vectors = subst (Each IsVector) (sym c.new.ensures) (each-empty name_cmp IsVector);
  features = subst (Each IsFeature) (sym c.new-2.ensures) (each-empty name_cmp IsFeature);
}
