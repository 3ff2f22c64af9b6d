-- What contracts see of a walk over the entries of a map.
use Rattle.std.specs.Prelude.{◌≢◌, ℕ, List, [], ◌∷◌, Option, Some, None, drop}
use Rattle.std.specs.declared.cmp.Ordering.TheVariants.{Greater}
use Rattle.std.specs.Ordering.{ord_min}
use Rattle.chart_model.specs.declared.drawing.Block.{Block}
use Rattle.chart_model.specs.declared.drawing.PanelKey.{PanelKey}
use Rattle.panel_port.specs.PanelKey.{panel_key_cmp}

-- all entries, and the place of the first that is left
pub record Position : Type 0 where
  pub entries : List (PanelKey × Block)
  pub place : ℕ

abbrev pub left_of : Position → List (PanelKey × Block)
left_of walk = drop walk.place walk.entries

abbrev pub first_key_of : List (PanelKey × Block) → Option PanelKey
first_key_of [] = None
first_key_of (first ∷ others) = Some first.0

-- the lesser of two keys, where there are two
abbrev pub least_of : Option PanelKey → Option PanelKey → Option PanelKey
least_of None other = other
least_of (Some one) None = Some one
least_of (Some one) (Some other) = Some (ord_min panel_key_cmp one other)

-- a block under the key in front of the others, where there is one
abbrev pub with_front : {K X : Type 0} → K → Option X → List (K × X) → List (K × X)
with_front key None others = others
with_front key (Some block) others = (key, block) ∷ others

-- the key isn't above the first of these
abbrev pub IsLeast : PanelKey → List (PanelKey × Block) → Type 0
IsLeast key [] = Unit {0}
IsLeast key (first ∷ others) = panel_key_cmp key first.0 ≢ Greater
