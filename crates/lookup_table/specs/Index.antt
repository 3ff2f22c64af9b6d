-- An index: the places of a table's lines, in a map for each geometry.
use Rattle.std.specs.Prelude.{◌≡◌, ℕ, ◌&&◌, ◌==◌, if◌then◌else◌, List, [], ◌∷◌, ◌++◌}
use Rattle.chart_model.specs.declared.drawing.Geom.{Geom}
use Rattle.chart_model.specs.declared.drawing.Geom.TheVariants.{Area, Line, Point}
use Rattle.lookup_table.specs.declared.index.Index.{Index}
use Rattle.lookup_table.specs.declared.line.TableLine.{TableLine}
use Rattle.lookup_table.specs.Selection.{same_geom}
use Rattle.lookup_table.specs.Places.{places_from, places_in}

-- the map of each geometry
abbrev pub index_of : Index → Geom → List (ℕ × List ℕ)
index_of index Area = index.areas.entries
index_of index Line = index.lines.entries
index_of index Point = index.points.entries

-- a place more
abbrev pub AddsPlace : (Geom → List (ℕ × List ℕ)) → (Geom → List (ℕ × List ℕ)) → ℕ → Geom → ℕ → Type 0
AddsPlace old new class geom place = (other : ℕ) (kind : Geom) →
    places_in (new kind) other
    ≡ (if (class == other) && same_geom geom kind then places_in (old kind) other ++ place ∷ []
    else places_in (old kind) other)

-- the maps have the places of all lines
abbrev pub IsIndexOf : List TableLine → (Geom → List (ℕ × List ℕ)) → Type 0
IsIndexOf lines index = (class : ℕ) (geom : Geom) → places_in (index geom) class ≡ places_from 0 class geom lines
