-- The colour of a depth area.
use Rattle.std.specs.Prelude.{ℕ, ℤ, pos, int_le, int_lt, Bool, ◌&&◌, if◌then◌else◌, List, [], ◌∷◌, codes}
use Rattle.std.specs.List.{fold}
use Rattle.chart_model.specs.declared.settings.Settings.{Settings}
use Rattle.chart_model.specs.declared.settings.Shades.{Shades}
use Rattle.chart_model.specs.declared.settings.Shades.TheVariants.{Two, Four}
use Rattle.depth_values.specs.declared.area.Depths.{Depths}

-- the area is nowhere less deep than the contour, and somewhere deeper
abbrev pub is_deeper : ℤ → Depths → Bool
is_deeper contour depths = int_le contour depths.d1 && int_lt contour depths.d2

-- a condition, and the colour of an area of which it holds
abbrev pub shades_by : Shades → Settings → Depths → List (Bool × List ℕ)
shades_by Two settings depths = (is_deeper settings.safety_contour depths, codes "DEPDW") ∷ []
shades_by Four settings depths =
    (is_deeper settings.shallow depths, codes "DEPMS")
    ∷ (is_deeper settings.safety_contour depths, codes "DEPMD")
    ∷ (is_deeper settings.deep depths, codes "DEPDW")
    ∷ []

-- the colour of a shade in the place of another, where its condition holds
abbrev pub colour_after : List ℕ → Bool × List ℕ → List ℕ
colour_after colour shade = if shade.0 then shade.1 else colour

-- that of what dries, in whose place each condition that holds puts its own, one after the other
abbrev pub colour_of : Settings → Depths → List ℕ
colour_of settings depths =
    fold colour_after (codes "DEPIT")
    ((is_deeper (pos 0) depths, codes "DEPVS") ∷ shades_by settings.shades settings depths)
