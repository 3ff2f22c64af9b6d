-- The symbol of a hazard of unknown depth.
use Rattle.std.specs.Prelude.{ℕ, Bool, ◌||◌, ◌==◌, List, if◌then◌else◌, codes}
use Rattle.chart_model.specs.declared.cell.Feature.{Feature}
use Rattle.depth_values.specs.Codes.{CATWRK, UWTROC, WATLEV, WRECKS}
use Rattle.depth_values.specs.Attributes.{has_value}

-- the attribute's text is one of two
abbrev pub has_either : Feature → ℕ → List ℕ → List ℕ → Bool
has_either feature code one other = has_value feature code one || has_value feature code other

-- the water level says that it covers and uncovers (4), or is awash (5)
abbrev pub dries : Feature → Bool
dries feature = has_either feature WATLEV (codes "4") (codes "5")

-- a wreck that shows its mast (4) or any part of it (5); one that isn't dangerous (1); any other
abbrev pub wreck_symbol : Feature → List ℕ
wreck_symbol feature =
    if has_either feature CATWRK (codes "4") (codes "5") then codes "SY(WRECKS01)"
    else if has_value feature CATWRK (codes "1") then codes "SY(WRECKS04)"
    else codes "SY(WRECKS05)"

abbrev pub rock_symbol : Feature → List ℕ
rock_symbol feature = if dries feature then codes "SY(UWTROC04)" else codes "SY(UWTROC03)"

-- of an obstruction, and of an object of any other class
abbrev pub obstruction_symbol : Feature → List ℕ
obstruction_symbol feature = if dries feature then codes "SY(OBSTRN03)" else codes "SY(OBSTRN01)"

abbrev pub symbol_of : Feature → List ℕ
symbol_of feature =
    if feature.class == WRECKS then wreck_symbol feature
    else if feature.class == UWTROC then rock_symbol feature
    else obstruction_symbol feature
