-- A base file that reads back as a cell: the data set that it is read as, and the chart that this builds.
use Rattle.std.specs.Prelude.{◌≡◌, ℕ, true, false, List, [], ◌++◌, map, Some, None, Ok}
use Rattle.std.specs.FinMap as finite
use Rattle.chart_model.specs.declared.name.Name.{Name}
use Rattle.chart_model.specs.declared.record.Attr.{Attr}
use Rattle.chart_model.specs.declared.cell.Vector.{Vector}
use Rattle.chart_model.specs.declared.cell.Feature.{Feature}
use Rattle.chart_model.specs.Attrs.{Attrs}
use Rattle.chart_model.specs.Cell.{CellValue}
use Rattle.chart_model.specs.Change.{Change}
use Rattle.chart_model.specs.Codes.{INSERT}
use Rattle.chart_model.specs.Dataset.{DatasetValue}
use Rattle.update_sequence.specs.Reading.{data_set_in}
use Rattle.update_sequence.specs.Built.{built}

-- the bytes are those of a base file, and the chart that its data set builds is the cell
pub record IsBaseFileOf (cell : CellValue) (file : List ℕ) : Type 0 where
  pub dataset : DatasetValue
  pub reads : data_set_in file ≡ Ok dataset
  pub base : dataset.base ≡ true
  pub header : dataset.header ≡ cell.header
  pub builds : built None dataset ≡ Ok cell

-- ---- that data set

-- attributes in the order of their codes
abbrev pub settings_of : Attrs → List Attr
settings_of attrs = map (λ entry. record { code = entry.0; value = entry.1 }) (finite.entries attrs)

-- a vector as it is inserted
abbrev pub vector_insertion : Name → Vector → Change
vector_insertion name vector = record {
  target = name;
  ruin = INSERT;
  version = vector.version;
  prim = 0;
  grup = 0;
  class = 0;
  foid = None;
  attrs = settings_of vector.attrs;
  pointer_edit = None;
  pointers = vector.pointers;
  coord_edit = None;
  coords = vector.coords;
  related_edit = None;
  related = [];
}

-- a feature as it is inserted
abbrev pub feature_insertion : Name → Feature → Change
feature_insertion name feature = record {
  target = name;
  ruin = INSERT;
  version = feature.version;
  prim = feature.prim;
  grup = feature.grup;
  class = feature.class;
  foid = Some feature.foid;
  attrs = settings_of feature.attrs;
  pointer_edit = None;
  pointers = feature.pointers;
  coord_edit = None;
  coords = [];
  related_edit = None;
  related = feature.related;
}

-- all records of a cell as they are inserted: vectors, then features, in the order of their names
unfoldable pub insertions : CellValue → List Change
insertions cell =
    map (λ entry. vector_insertion entry.0 entry.1) (finite.entries cell.vectors)
    ++ map (λ entry. feature_insertion entry.0 entry.1) (finite.entries cell.features)

-- the data set of a base file with these insertions
abbrev pub data_set_of : CellValue → DatasetValue
data_set_of cell = record { header = cell.header; base = true; cancels = false; changes = insertions cell }
