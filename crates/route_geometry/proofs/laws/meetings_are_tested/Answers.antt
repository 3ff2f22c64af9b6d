use Rattle.route_geometry.proofs.Tested.{tested_is_met, met_is_tested, tested_area_is_met, met_area_is_tested}
use Rattle.route_geometry.proofs.laws.meetings_are_tested.Goals as goal

pub returns : goal.returns
returns c = record {
  segment = λ leg p q. (tested_is_met leg p q, met_is_tested leg p q);
  area = λ leg rings. (tested_area_is_met leg rings, met_area_is_tested leg rings);
}
