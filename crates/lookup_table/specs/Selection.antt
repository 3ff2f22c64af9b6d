-- The line of a table for an object.
use Rattle.std.specs.Prelude.{ℕ, Bool, true, false, ◌&&◌, ◌==◌, nat_lt, List, length, Option, Some, None, position}
use Rattle.std.specs.List.{list_all}
use Rattle.std.specs.Option.{option_or}
use Rattle.std.specs.Str.{bytes_eq}
use Rattle.std.specs.FinMap as map
use Rattle.chart_model.specs.Attrs.{Attrs}
use Rattle.chart_model.specs.declared.drawing.Geom.{Geom}
use Rattle.chart_model.specs.declared.drawing.Geom.TheVariants.{Area, Line, Point}
use Rattle.lookup_table.specs.declared.condition.Condition.{Condition}
use Rattle.lookup_table.specs.declared.condition.Test.{Test}
use Rattle.lookup_table.specs.declared.condition.Test.TheVariants.{Equals, Empty, Filled}
use Rattle.lookup_table.specs.declared.line.TableLine.{TableLine}

-- whether an attribute's value, where it is there, is what the test asks
abbrev pub meets : Test → Option (List ℕ) → Bool
meets test None = false
meets (Equals text) (Some value) = bytes_eq value text
meets Empty (Some value) = length value == 0
meets Filled (Some value) = nat_lt 0 (length value)

abbrev pub holds : Attrs → Condition → Bool
holds attrs condition = meets condition.test (map.get attrs condition.attribute)

abbrev pub same_geom : Geom → Geom → Bool
same_geom Area Area = true
same_geom Area Line = false
same_geom Area Point = false
same_geom Line Area = false
same_geom Line Line = true
same_geom Line Point = false
same_geom Point Area = false
same_geom Point Line = false
same_geom Point Point = true

-- the line is for this class and geometry
abbrev pub is_for : ℕ → Geom → TableLine → Bool
is_for class geom line = (line.class == class) && same_geom line.geom geom

-- it has a condition at least, and all of them hold
abbrev pub applies : Attrs → TableLine → Bool
applies attrs line = nat_lt 0 (length line.conditions) && list_all (holds attrs) line.conditions

-- it has none
abbrev pub is_unconditional : TableLine → Bool
is_unconditional line = length line.conditions == 0

-- The place of the line for an object: the first line for its class and geometry with a condition at least, all of
-- which hold; else the first without conditions.
abbrev pub place_for : List TableLine → ℕ → Geom → Attrs → Option ℕ
place_for lines class geom attrs =
    option_or
    (position (λ line. is_for class geom line && applies attrs line) lines)
    (position (λ line. is_for class geom line && is_unconditional line) lines)
