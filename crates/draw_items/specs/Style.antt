-- The style of the line along an edge.
use Rattle.std.specs.Prelude.{ℕ, Bool, true, ◌||◌, if◌then◌else◌, List, codes, Option, Some, None, option_and_then}
use Rattle.std.specs.Str.{bytes_eq}
use Rattle.std.specs.FinMap as finite
use Rattle.chart_model.specs.Cell.{CellValue}
use Rattle.chart_model.specs.declared.name.Name.{Name}

-- a quality of position (QUAPOS, 402) that leaves a line solid: none; 1 surveyed, 10 precisely known, 11 calculated
abbrev pub is_exact : Option (List ℕ) → Bool
is_exact None = true
is_exact (Some text) = bytes_eq text (codes "1") || bytes_eq text (codes "10") || bytes_eq text (codes "11")

-- the edge's quality of position
abbrev pub quality_of : CellValue → Name → Option (List ℕ)
quality_of cell edge = option_and_then (λ vector. finite.get vector.attrs 402) (finite.get cell.vectors edge)

abbrev pub is_solid : CellValue → Name → Bool
is_solid cell edge = is_exact (quality_of cell edge)

abbrev pub style_of : CellValue → Name → List ℕ
style_of cell edge = if is_solid cell edge then codes "SOLID" else codes "DASH"
