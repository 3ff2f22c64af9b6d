-- Lines, forward and in reverse.
use Rattle.std.proofs.Common.{◌≡◌, ℕ, ◌-◌, Bool, true, false, not, List, [], ◌∷◌, ◌++◌, map, reverse, take, length, refl, sym, ap, ◌∙◌, arith, if◌then◌else◌, option_map, Option, Some, None}
use Rattle.std.proofs.lemmas.List.{reverse-append, reverse-reverse, map-append, append_assoc, length-append}
use Rattle.std.proofs.Math.Seq.{take-append_seam}
use Rattle.chart_model.specs.declared.name.Name.{Name}
use Rattle.chart_model.specs.declared.record.Coord.{Coord}
use Rattle.chart_model.specs.Cell.{CellValue}
use Rattle.std.proofs.lemmas.Option.{none-some}
use Rattle.plane_geometry.specs.declared.point.Pt.{Pt}
use Rattle.area_rings.specs.Edge.{point_of, EdgeValue, edge_of, way_along, line_of}
use Rattle.area_rings.specs.Rings.{but_last}

map-reverse : {A B : Type 0} (f : A → B) (xs : List A) → map f (reverse xs) ≡ reverse (map f xs)
map-reverse f [] = refl
map-reverse f (x ∷ xs) =
    ap (map f) (reverse-append (x ∷ []) xs)
    ∙ map-append f (reverse xs) (x ∷ [])
    ∙ ap (λ (l : List _). l ++ f x ∷ []) (map-reverse f xs)
    ∙ sym (reverse-append (f x ∷ []) (map f xs))

-- coordinates in order or in reverse
abbrev pub passed : Bool → List Coord → List Coord
passed reversed coords = if reversed then reverse coords else coords

passed-not : (reversed : Bool) (coords : List Coord) → reverse (map point_of (passed reversed coords)) ≡ map point_of (passed (not reversed) coords)
passed-not true coords = sym (map-reverse point_of (reverse coords)) ∙ ap (map point_of) (reverse-reverse coords)
passed-not false coords = sym (map-reverse point_of coords)

-- the way back
pub back : (start end : Pt) (reversed : Bool) (coords : List Coord) → (end ∷ map point_of (passed (not reversed) coords)) ++ start ∷ [] ≡ reverse ((start ∷ map point_of (passed reversed coords)) ++ end ∷ [])
back start end reversed coords =
    ap (λ (l : List Pt). (end ∷ l) ++ start ∷ []) (sym (passed-not reversed coords))
    ∙ sym (reverse-append (start ∷ map point_of (passed reversed coords)) (end ∷ []) ∙ ap (λ (l : List Pt). (end ∷ []) ++ l) (reverse-append (start ∷ []) (map point_of (passed reversed coords))))

-- all points but the last
pub but_last_is : (points : List Pt) (end : Pt) → but_last (points ++ end ∷ []) ≡ points
but_last_is points end =
    let one : length (points ++ end ∷ []) - 1 ≡ length points = omega (arith, length-append points (end ∷ [])) in
    ap (λ (n : ℕ). take n (points ++ end ∷ [])) one ∙ take-append_seam points (end ∷ [])

-- a start, and then points
pub pushed : (old mid new : List Pt) (start end : Pt) (reversed : Bool) (coords taken : List Coord) → passed reversed coords ≡ taken → mid ≡ old ++ start ∷ [] → new ≡ mid ++ map point_of taken → new ≡ old ++ but_last ((start ∷ map point_of (passed reversed coords)) ++ end ∷ [])
pushed old mid new start end reversed coords taken e f g =
    g
    ∙ ap (λ (l : List Pt). l ++ map point_of taken) f
    ∙ append_assoc old (start ∷ []) (map point_of taken)
    ∙ ap (λ (l : List Coord). old ++ (start ∷ map point_of l)) (sym e)
    ∙ ap (λ (l : List Pt). old ++ l) (sym (but_last_is (start ∷ map point_of (passed reversed coords)) end))

pub passed_back : (reversed : Bool) (coords : List Coord) → reversed ≡ true → passed reversed coords ≡ reverse coords
passed_back reversed coords e = rw e refl

pub passed_on : (reversed : Bool) (coords : List Coord) → reversed ≡ false → passed reversed coords ≡ coords
passed_on reversed coords e = rw e refl

-- a way, and then its end
pub ended : (old all line : List Pt) (before : List Pt) (end : Pt) → all ≡ old ++ but_last (before ++ end ∷ []) → old ≡ [] → line ≡ all ++ end ∷ [] → line ≡ before ++ end ∷ []
ended old all line before end e f g =
    g ∙ ap (λ (l : List Pt). l ++ end ∷ []) (e ∙ ap (λ (l : List Pt). l ++ but_last (before ++ end ∷ [])) f ∙ but_last_is before end)

pub line_of_edge : (cell : CellValue) (name : Name) (reversed : Bool) (edge : EdgeValue) → Some edge ≡ option_map (way_along reversed) (edge_of cell name) → line_of cell name reversed ≡ Some edge.points
line_of_edge cell name reversed edge e = go (edge_of cell name) e
  where
    go : (o : Option EdgeValue) → Some edge ≡ option_map (way_along reversed) o → option_map (λ edge. (way_along reversed edge).points) o ≡ Some edge.points
    go None e = absurd (none-some edge (sym e))
    go (Some recorded) e = ap (option_map (λ (edge : EdgeValue). edge.points)) (sym e)
