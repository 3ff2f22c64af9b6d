-- What is told of an area that is under an object.
use Rattle.std.specs.Prelude.{ℕ, List, Option, option_map, slice_get}
use Rattle.depth_values.specs.DepthArea.{AreaValue}
use Rattle.depth_values.specs.declared.depth_area.AreaMark.{AreaMark}

-- its name, and the least of its depths in centimetres
abbrev pub mark_of : AreaValue → AreaMark
mark_of area = record { name = area.name; d1 = area.d1 }

-- of the area at a place, where there is one
abbrev pub mark_at : List AreaValue → ℕ → Option AreaMark
mark_at areas place = option_map mark_of (slice_get areas place)
