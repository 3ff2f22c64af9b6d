-- The order of panel keys is total, and only equal keys tie.
use Rattle.std.specs.Cmp.{IsTotalOrder}
use Rattle.std.proofs.lemmas.Cmp.{on_total, then_total}
use Rattle.std.specs.FinMap.{IsAntisymmetric}
use Rattle.chart_model.specs.declared.drawing.PanelKey.{PanelKey}
use Rattle.chart_model.proofs.Keys.{key_cmp-total, key_cmp-IsAntisymmetric}
use Rattle.chart_model.proofs.Names.{both-tie, name_cmp-total, name_cmp-IsAntisymmetric}
use Rattle.panel_port.specs.PanelKey.{panel_key_cmp}

pub panel_key_cmp-total : IsTotalOrder panel_key_cmp
panel_key_cmp-total =
    then_total (on_total (λ (key : PanelKey). key.key) key_cmp-total)
    (on_total (λ (key : PanelKey). key.name) name_cmp-total)

pub panel_key_cmp-IsAntisymmetric : IsAntisymmetric panel_key_cmp
panel_key_cmp-IsAntisymmetric x y e =
    let ties = both-tie _ _ e in
    let keys = key_cmp-IsAntisymmetric x.key y.key ties.0 in
    let names = name_cmp-IsAntisymmetric x.name y.name ties.1 in
    λ i. record { key = keys i; name = names i }
