-- The places of lines in the maps of a table.
use Rattle.std.proofs.Common.{◌≡◌, ℕ, ◌+◌, Bool, true, false, cond, eqb, List, [], ◌∷◌, ◌++◌, length, refl, sym, ap, ◌∙◌, arith}
use Rattle.std.specs.Prelude.{◌&&◌}
use Rattle.chart_model.specs.declared.drawing.Geom.{Geom}
use Rattle.chart_model.specs.declared.drawing.Geom.TheVariants.{Area, Line, Point}
use Rattle.lookup_table.specs.declared.line.TableLine.{TableLine}
use Rattle.lookup_table.specs.Selection.{is_for}
use Rattle.lookup_table.specs.Places.{places_from, places_in, HasPlaceMore}
use Rattle.lookup_table.specs.Index.{AddsPlace, IsIndexOf}

stepped : (a b : Bool) (start n m : ℕ) (q : List ℕ) → n ≡ m
    → cond a (start ∷ cond b (q ++ n ∷ []) q) (cond b (q ++ n ∷ []) q) ≡ cond b (cond a (start ∷ q) q ++ m ∷ []) (cond a (start ∷ q) q)
stepped true true start n m q e = ap (λ (k : ℕ). start ∷ (q ++ k ∷ [])) e
stepped true false start n m q e = refl
stepped false true start n m q e = ap (λ (k : ℕ). q ++ k ∷ []) e
stepped false false start n m q e = refl

-- a line more gives its class and geometry a place more
pub places_from-push : (start class : ℕ) (geom : Geom) (lines : List TableLine) (line : TableLine)
    → places_from start class geom (lines ++ line ∷ []) ≡ cond (is_for class geom line) (places_from start class geom lines ++ (start + length lines) ∷ []) (places_from start class geom lines)
unfolding places_from
places_from-push start class geom [] line =
    let same : start ≡ start + 0 = omega arith in
    ap (λ (k : ℕ). cond (is_for class geom line) (k ∷ []) []) same
places_from-push start class geom (x ∷ lines) line =
    let same : (start + 1) + length lines ≡ start + length (x ∷ lines) = omega arith in
    ap (λ (l : List ℕ). cond (is_for class geom x) (start ∷ l) l) (places_from-push (start + 1) class geom lines line)
    ∙ stepped (is_for class geom x) (is_for class geom line) start ((start + 1) + length lines) (start + length (x ∷ lines)) (places_from (start + 1) class geom lines) same

-- an index with the place of a line more is one of the lines with it
pub indexed-push : (old new : Geom → List (ℕ × List ℕ)) (lines : List TableLine) (line : TableLine) → IsIndexOf lines old
    → AddsPlace old new line.class line.geom (length lines) → IsIndexOf (lines ++ line ∷ []) new
indexed-push old new lines line indexed adds = λ class geom.
    adds class geom
    ∙ ap (λ (l : List ℕ). cond (is_for class geom line) (l ++ length lines ∷ []) l) (indexed class geom)
    ∙ sym (places_from-push 0 class geom lines line ∙ ap (λ (n : ℕ). cond (is_for class geom line) (places_from 0 class geom lines ++ n ∷ []) (places_from 0 class geom lines)) zero)
  where
    zero : 0 + length lines ≡ length lines
    zero = omega arith

same-here : (a : Bool) (x y : List ℕ) → cond a x y ≡ cond (a && true) x y
same-here true x y = refl
same-here false x y = refl

same-other : (a : Bool) (x y : List ℕ) → y ≡ cond (a && false) x y
same-other true x y = refl
same-other false x y = refl

pub more_areas : (old new : Geom → List (ℕ × List ℕ)) (class place : ℕ) → HasPlaceMore (old Area) (new Area) class place → new Line ≡ old Line → new Point ≡ old Point
    → AddsPlace old new class Area place
more_areas old new class place more lines points other Area = more other ∙ same-here (eqb class other) (places_in (old Area) other ++ place ∷ []) (places_in (old Area) other)
more_areas old new class place more lines points other Line = ap (λ (l : List (ℕ × List ℕ)). places_in l other) lines ∙ same-other (eqb class other) _ _
more_areas old new class place more lines points other Point = ap (λ (l : List (ℕ × List ℕ)). places_in l other) points ∙ same-other (eqb class other) _ _

pub no_places : (class : ℕ) (geom : Geom) (lines : List TableLine) → lines ≡ [] → [] ≡ places_from 0 class geom lines
unfolding places_from
no_places class geom lines e = sym (ap (places_from 0 class geom) e)
