-- Areas of coverage (S-57 Appendix A): areas of the class M_COVR whose category of coverage is 1.
use Rattle.std.specs.Prelude.{◌≡◌, ℕ, Bool, false, ◌&&◌, ◌==◌, codes, if◌then◌else◌, List, [], ◌∷◌, Option, Some, None}
use Rattle.std.specs.List.{flat_map}
use Rattle.std.specs.Str.{bytes_eq}
use Rattle.std.specs.FinMap as map
use Rattle.chart_model.specs.declared.name.Name.{Name}
use Rattle.chart_model.specs.declared.cell.Feature.{Feature}
use Rattle.chart_model.specs.declared.state.Holding.{Holding}
use Rattle.chart_model.specs.Cell.{CellValue}
use Rattle.chart_model.specs.State.{StateValue}
use Rattle.chart_model.specs.Codes.{AREA}
use Rattle.plane_geometry.specs.declared.point.Pt.{Pt}
use Rattle.area_rings.specs.Shape.{rings_of}

-- the class of areas of coverage
abbrev pub M_COVR : ℕ
M_COVR = 302

-- the attribute category of coverage
abbrev pub CATCOV : ℕ
CATCOV = 18

-- an area of coverage: the category is 1, coverage available, and no more
pub record IsCoverage (feature : Feature) : Type 0 where
  pub class : feature.class ≡ M_COVR
  pub area : feature.prim ≡ AREA
  pub available : map.get feature.attrs CATCOV ≡ Some (codes "1")

-- an area of coverage of a chart that is held has these rings
pub record IsCharted (state : StateValue) (rings : List (List Pt)) : Type 0 where
  pub key : List ℕ
  pub holding : Holding
  pub held : map.get state.cells key ≡ Some holding
  pub chart : CellValue
  pub charted : holding.chart ≡ Some chart
  pub name : Name
  pub feature : Feature
  pub there : map.get chart.features name ≡ Some feature
  pub coverage : IsCoverage feature
  pub bounded : rings_of chart feature.pointers ≡ Some rings

-- ---- as tests and lists

-- there is a text, and it is the value
abbrev pub is_text : List ℕ → Option (List ℕ) → Bool
is_text value None = false
is_text value (Some text) = bytes_eq text value

-- the attribute's text is that value
abbrev pub has_text : Feature → ℕ → List ℕ → Bool
has_text feature code value = is_text value (map.get feature.attrs code)

abbrev pub is_coverage : Feature → Bool
is_coverage feature = ((feature.class == M_COVR) && (feature.prim == AREA)) && has_text feature CATCOV (codes "1")

abbrev pub listed : {X : Type 0} → Option X → List X
listed None = []
listed (Some x) = x ∷ []

-- the rings of a feature, where it is an area of coverage and has rings
abbrev pub coverage_at : CellValue → Feature → List (List (List Pt))
coverage_at cell feature = if is_coverage feature then listed (rings_of cell feature.pointers) else []

-- those of every feature of a chart, in the order of the features' names
abbrev pub coverage_of : CellValue → List (List (List Pt))
coverage_of cell = flat_map (λ entry. coverage_at cell entry.1) (map.entries cell.features)

-- those of a chart, where there is one
abbrev pub coverage_under : Option CellValue → List (List (List Pt))
coverage_under None = []
coverage_under (Some cell) = coverage_of cell

-- those of every chart that is held, in the order of the charts' keys
abbrev pub coverage_in : StateValue → List (List (List Pt))
coverage_in state = flat_map (λ entry. coverage_under entry.1.chart) (map.entries state.cells)
