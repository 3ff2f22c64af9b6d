-- Cells and updates that are made for trials: as many areas as are asked for, each with an edge and a node of its own.
use Rattle.std.specs.Prelude.{ℕ, zero, suc, ◌+◌, ◌-◌, ◌*◌, ◌/◌, ◌%◌, ◌==◌, Bool, pos, List, [], ◌∷◌, ◌++◌}
use Rattle.std.specs.Prelude.{codes, filter, map}
use Rattle.std.specs.Prelude.{None}
use Rattle.std.specs.FinMap as finite
use Rattle.text_scan.specs.Written.{decimal_of}
use Rattle.chart_model.specs.declared.name.Name.{Name}
use Rattle.chart_model.specs.declared.record.Pointer.{Pointer}
use Rattle.chart_model.specs.declared.record.Coord.{Coord}
use Rattle.chart_model.specs.declared.cell.Vector.{Vector}
use Rattle.chart_model.specs.declared.cell.Feature.{Feature}
use Rattle.chart_model.specs.declared.dataset.Header.{Header}
use Rattle.chart_model.specs.Attrs.{Attrs}
use Rattle.chart_model.specs.Cell.{CellValue}
use Rattle.chart_model.specs.Codes.{FEATURE, CONNECTED_NODE, EDGE, AREA, FORWARD, EXTERIOR, BEGIN_NODE, END_NODE, NULL}
use Rattle.chart_model.specs.Codes.{MODIFY}
use Rattle.chart_model.specs.Names.{name_cmp}
use Rattle.cell_bytes.specs.Subfields.{b11}
use Rattle.cell_bytes.specs.Record.{Field, digits, field, of_data, record_of}
use Rattle.cell_bytes.specs.Descriptive.{descriptive_record}
use Rattle.cell_bytes.specs.DataSet.{revision_fields}
use Rattle.cell_bytes.specs.Vector.{attribute, record_identifier, name_text}
use Rattle.cell_bytes.specs.Feature.{object_description}
use Rattle.cell_bytes.specs.Written.{NumberedRecord, records_from}

-- ---- the cell

-- MK, and how many areas there are in six digits
abbrev pub made_key : ℕ → List ℕ
made_key count = codes "MK" ++ digits 6 count

-- the header of a file with this update number and compilation scale: edition 1, agency 550
abbrev pub made_header : ℕ → ℕ → ℕ → Header
made_header count update scale = record {
  key = made_key count;
  edition = 1;
  update = update;
  issued = codes "20240101";
  agency = 550;
  scale = scale;
}

abbrev pub node_name : ℕ → Name
node_name number = record { rcnm = CONNECTED_NODE; rcid = number }

abbrev pub edge_name : ℕ → Name
edge_name number = record { rcnm = EDGE; rcid = number }

abbrev pub area_name : ℕ → Name
area_name number = record { rcnm = FEATURE; rcid = number }

-- a place so far east and so far north
abbrev pub made_place : ℕ → ℕ → Coord
made_place x y = record { x = pos x; y = pos y; z = None }

-- the node at (1000 i, 0)
abbrev pub made_node : ℕ → Vector
made_node number = record {
  version = 1;
  attrs = finite.empty;
  pointers = [];
  coords = made_place (1000 * number) 0 ∷ [];
}

-- a pointer of an edge to its node, with this topology
abbrev pub to_node : ℕ → ℕ → Pointer
to_node number topi = record { target = node_name number; ornt = NULL; usag = NULL; topi = topi; mask = NULL }

-- the other corners of a square of 900 whose south-western corner is so far east
abbrev pub round_square : ℕ → List Coord
round_square x = made_place (x + 900) 0 ∷ (made_place (x + 900) 900 ∷ (made_place x 900 ∷ []))

-- the edge from that node to itself, round the square
abbrev pub made_edge : ℕ → Vector
made_edge number = record {
  version = 1;
  attrs = finite.empty;
  pointers = to_node number BEGIN_NODE ∷ (to_node number END_NODE ∷ []);
  coords = round_square (1000 * number);
}

-- a pointer of an area to its edge
abbrev pub to_edge : ℕ → Pointer
to_edge number =
    record { target = edge_name number; ornt = FORWARD; usag = EXTERIOR; topi = NULL; mask = NULL }

-- DRVAL1, and DRVAL2 10 m below it
abbrev pub made_depths : ℕ → Attrs
made_depths metres =
    finite.insert (finite.insert finite.empty 87 (decimal_of (pos metres))) 88 (decimal_of (pos (metres + 10)))

-- the depth area inside that edge
abbrev pub made_area : ℕ → Feature
made_area number = record {
  prim = AREA;
  grup = 1;
  class = 42;
  version = 1;
  foid = record { agen = 550; fidn = number; fids = 1 };
  attrs = made_depths (number % 50);
  related = [];
  pointers = to_edge number ∷ [];
}

-- the nodes of the first areas
unfoldable pub nodes_to : ℕ → finite.FinMap name_cmp Vector
nodes_to zero = finite.empty
nodes_to (suc count) = finite.insert (nodes_to count) (node_name (suc count)) (made_node (suc count))

-- these vectors, and the edges of the first areas
unfoldable pub edges_to : finite.FinMap name_cmp Vector → ℕ → finite.FinMap name_cmp Vector
edges_to vectors zero = vectors
edges_to vectors (suc count) =
    finite.insert (edges_to vectors count) (edge_name (suc count)) (made_edge (suc count))

-- the first areas
unfoldable pub areas_to : ℕ → finite.FinMap name_cmp Feature
areas_to zero = finite.empty
areas_to (suc count) = finite.insert (areas_to count) (area_name (suc count)) (made_area (suc count))

-- the cell with so many areas
unfoldable pub made_cell : ℕ → CellValue
made_cell count = record {
  header = made_header count 0 10000;
  vectors = edges_to (nodes_to count) count;
  features = areas_to count;
}

-- ---- its updates

-- the numbers from 1 on
unfoldable pub numbers_to : ℕ → List ℕ
numbers_to zero = []
numbers_to (suc count) = numbers_to count ++ suc count ∷ []

-- the version of the areas that the update modifies: each is modified by every thirtieth update
abbrev pub made_version : ℕ → ℕ
made_version update = 2 + (update - 1) / 30

-- the fields of the record that modifies an area: DRVAL1 alone is set
unfoldable pub modified_fields : ℕ → ℕ → ℕ → List Field
modified_fields update area number =
    record_identifier number
    ++ field (codes "FRID")
    (name_text (area_name area) ++ object_description AREA 1 42 (made_version update) ++ b11 MODIFY)
    ++ field (codes "ATTF") (attribute 87 (decimal_of (pos (update % 50))))

unfoldable pub modification : ℕ → ℕ → NumberedRecord
modification update area number = record_of of_data (modified_fields update area number)

-- whether the update modifies the area: their numbers are equal modulo 30
abbrev pub is_modified : ℕ → ℕ → Bool
is_modified update area = area % 30 == update % 30

-- the areas, of the first, that the update modifies
unfoldable pub modified_areas : ℕ → ℕ → List ℕ
modified_areas update count = filter (is_modified update) (numbers_to count)

-- the file of the update
unfoldable pub made_update : ℕ → ℕ → List ℕ
made_update count update =
    descriptive_record ++ records_from 1 (
    (λ number. record_of of_data (revision_fields number (made_header count update 0)))
    ∷ map (modification update) (modified_areas update count))
