-- A cell, as contracts see it.
use Rattle.std.specs.Prelude.{◌≡◌, ◌≢◌, ◌≤◌, ℕ, List, [], ◌∷◌, All, IfSome, refl}
use Rattle.std.specs.Coded.{Coded, code_by, coded×}
use Rattle.std.specs.Int.{IsInRange}
use Rattle.std.specs.FinMap as map
use Rattle.chart_model.specs.declared.name.Name.{Name}
use Rattle.chart_model.specs.declared.dataset.Header.{Header}
use Rattle.chart_model.specs.declared.cell.Vector.{Vector}
use Rattle.chart_model.specs.declared.cell.Feature.{Feature}
use Rattle.chart_model.specs.contracts.dataset.Header as header
use Rattle.chart_model.specs.contracts.cell.Vector as vector
use Rattle.chart_model.specs.contracts.cell.Feature as feature
use Rattle.chart_model.specs.Attrs.{Attrs}
use Rattle.chart_model.specs.Codes.{DELETED, NULL}
use Rattle.chart_model.specs.Key.{IsKey}
use Rattle.chart_model.specs.Names.{name_cmp, name_code}
use Rattle.chart_model.specs.Record.{IsVectorName, IsFeatureName, AreCoords, IsPlainText, IsPrim}

pub record CellValue : Type 0 where
  pub header : Header
  pub vectors : map.FinMap name_cmp Vector
  pub features : map.FinMap name_cmp Feature

-- a cell is stored as the tuple of its fields
abbrev pub cell_code : Coded CellValue
cell_code =
    code_by (Header × (map.FinMap name_cmp Vector × map.FinMap name_cmp Feature))
    (coded× header.the_row.coded
    (coded× (map.code name_code vector.the_row.coded) (map.code name_code feature.the_row.coded)))
    (λ cell. (cell.header, (cell.vectors, cell.features)))
    (λ fields. record { header = fields.0; vectors = fields.1.0; features = fields.1.1 })
    (λ _. refl)

-- a cell without a record
abbrev pub empty_cell : Header → CellValue
empty_cell header = record { header = header; vectors = map.empty; features = map.empty }

-- key, edition and update of a chart: no chart has the edition 0, which cancels
pub record IsChartHeader (header : Header) : Type 0 where
  pub key : IsKey header.key
  pub edition : IsInRange 1 999999999 header.edition
  pub update : header.update ≤ 999999999

-- a text that a record keeps: the single byte 0x7F removes its attribute, and is never kept
pub record IsKeptText (text : List ℕ) : Type 0 where
  pub plain : IsPlainText text
  pub kept : text ≢ DELETED ∷ []

abbrev pub AreKeptTexts : Attrs → Type 0
AreKeptTexts attrs = (code : ℕ) → IfSome (map.get attrs code) IsKeptText

-- a vector record under its name
pub record IsVector (name : Name) (vector : Vector) : Type 0 where
  pub named : IsVectorName name
  pub attrs : AreKeptTexts vector.attrs
  pub coords : AreCoords vector.coords

-- a feature record under its name
pub record IsFeature (name : Name) (feature : Feature) : Type 0 where
  pub named : IsFeatureName name
  pub prim : IsPrim feature.prim
  pub attrs : AreKeptTexts feature.attrs
  pub topi : All (λ pointer. pointer.topi ≡ NULL) feature.pointers

pub record IsCell (cell : CellValue) : Type 0 where
  pub header : IsChartHeader cell.header
  pub vectors : (name : Name) → IfSome (map.get cell.vectors name) (IsVector name)
  pub features : (name : Name) → IfSome (map.get cell.features name) (IsFeature name)
