-- The places of a table's lines, by class and geometry.
use Rattle.std.specs.Prelude.{◌≡◌, ℕ, ◌+◌, ◌==◌, Bool, false, if◌then◌else◌, List, [], ◌∷◌, ◌++◌, slice_get}
use Rattle.std.specs.Prelude.{Option, Some, None}
use Rattle.std.specs.List.{find}
use Rattle.std.specs.Option.{unwrap_or}
use Rattle.std.specs.Map.{lookup}
use Rattle.std.specs.Ordering.{nat_cmp, is_eq}
use Rattle.chart_model.specs.declared.drawing.Geom.{Geom}
use Rattle.lookup_table.specs.declared.line.TableLine.{TableLine}
use Rattle.lookup_table.specs.Selection.{is_for}

-- the places, from one on, of the lines for a class and a geometry
unfoldable pub places_from : ℕ → ℕ → Geom → List TableLine → List ℕ
places_from start class geom [] = []
places_from start class geom (line ∷ lines) =
    if is_for class geom line then start ∷ places_from (start + 1) class geom lines
    else places_from (start + 1) class geom lines

-- the places that a map by class has
abbrev pub places_in : List (ℕ × List ℕ) → ℕ → List ℕ
places_in entries class = unwrap_or (lookup (λ key. is_eq (nat_cmp class key)) entries) []

-- a place more
abbrev pub HasPlaceMore : List (ℕ × List ℕ) → List (ℕ × List ℕ) → ℕ → ℕ → Type 0
HasPlaceMore old new class place = (other : ℕ) →
    places_in new other ≡ (if class == other then places_in old other ++ place ∷ [] else places_in old other)

-- there is a line, and it passes
abbrev pub passes : (TableLine → Bool) → Option TableLine → Bool
passes test None = false
passes test (Some line) = test line

-- the first of these places at which a line passes
abbrev pub first_place : (TableLine → Bool) → List TableLine → List ℕ → Option ℕ
first_place test lines places = find (λ place. passes test (slice_get lines place)) places
