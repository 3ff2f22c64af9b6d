-- The order of panel keys.
use Rattle.std.specs.Prelude.{ℕ, List, refl}
use Rattle.std.specs.Coded.{Coded, code_by, coded×, coded_list, coded_ℕ}
use Rattle.std.specs.declared.cmp.Ordering.{Ordering}
use Rattle.std.specs.Ordering.{ordering_then}
use Rattle.chart_model.specs.declared.drawing.PanelKey.{PanelKey}
use Rattle.chart_model.specs.declared.name.Name.{Name}
use Rattle.chart_model.specs.Keys.{key_cmp}
use Rattle.chart_model.specs.Names.{name_cmp, name_code}

-- by cell, then by the feature's name
abbrev pub panel_key_cmp : PanelKey → PanelKey → Ordering
panel_key_cmp x y = ordering_then (key_cmp x.key y.key) (name_cmp x.name y.name)

-- a panel key is stored as the pair of its fields
abbrev pub panel_key_code : Coded PanelKey
panel_key_code =
    code_by (List ℕ × Name) (coded× (coded_list coded_ℕ) name_code)
    (λ key. (key.key, key.name)) (λ pair. record { key = pair.0; name = pair.1 }) (λ _. refl)
