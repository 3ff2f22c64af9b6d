-- What the bytes of a route's file are, or their fault.
use Rattle.std.specs.Prelude.{◌≡◌, ◌≢◌, ℕ, ◌+◌, nat_lt, ◌⊎◌, Bool, not, ◌&&◌, List, [], ◌∷◌, ◌++◌, length, filter}
use Rattle.std.specs.Prelude.{Option, None, is_none, Result}
use Rattle.std.specs.List.{AllZip, filter_map}
use Rattle.std.specs.Str.Lines.{lines}
use Rattle.chart_model.specs.Answers.{◌>>=◌, when, first_of, unless, or_fault}
use Rattle.text_lines.specs.Lines.{IsSilent, is_silent}
use Rattle.text_lines.specs.Reading.{first_fault}
use Rattle.plane_geometry.specs.declared.point.Pt.{Pt}
use Rattle.route_check.specs.declared.line.HalfWidths.{HalfWidths}
use Rattle.route_check.specs.declared.route.Route.{Route}
use Rattle.route_check.specs.declared.fault.RouteFault.{RouteFault}
use Rattle.route_check.specs.declared.fault.RouteFault.TheVariants.{BadLine, Few, Many}
use Rattle.route_check.specs.PointCount.{IsPointCount}
use Rattle.route_check.specs.RouteLine.{SpellsBox, SpellsPoint, box_of, point_of}

-- the lines that say something
abbrev pub saying : List (List ℕ) → List (List ℕ)
saying all = filter (λ line. not (is_silent line)) all

-- lines that are a box and then points
pub record SpellsWay (said : List (List ℕ)) (w h : ℕ) (points : List Pt) : Type 0 where
  pub box_line : List ℕ
  pub point_lines : List (List ℕ)
  pub whole : said ≡ box_line ∷ point_lines
  pub box : SpellsBox box_line w h
  pub spelled : AllZip SpellsPoint point_lines points

-- the lines that say something are the route's box and then its points, 2 to 1,000 of them
pub record SpellsRoute (all : List (List ℕ)) (route : Route) : Type 0 where
  pub way : SpellsWay (saying all) route.w route.h route.points
  pub count : IsPointCount (length route.points)

-- so many points: none where no line says anything, else those behind a box
abbrev pub HasPoints : List (List ℕ) → ℕ → Type 0
HasPoints all n =
    ((saying all ≡ []) × (n ≡ 0))
    ⊎ ((w : ℕ) × (h : ℕ) × (points : List Pt) × SpellsWay (saying all) w h points × (n ≡ length points))

-- A line is understood behind others: it says nothing; or it is a box, and none of the others says anything; or it is
-- a point, and one of the others says something.
abbrev pub IsUnderstood : List (List ℕ) → List ℕ → Type 0
IsUnderstood before line =
    IsSilent line
    ⊎ (((saying before ≡ []) × ((w : ℕ) × (h : ℕ) × SpellsBox line w h))
    ⊎ ((saying before ≢ []) × ((p : Pt) × SpellsPoint line p)))

-- the line of this number, counted from 1, is not understood behind those before it, which all are
pub record HasFirstBad (all : List (List ℕ)) (n : ℕ) : Type 0 where
  pub before : List (List ℕ)
  pub line : List ℕ
  pub rest : List (List ℕ)
  pub whole : all ≡ before ++ line ∷ rest
  pub number : n ≡ length before + 1
  pub understood : (front back : List (List ℕ)) (other : List ℕ) →
      before ≡ front ++ other ∷ back → IsUnderstood front other
  pub bad : ¬ IsUnderstood before line

-- ---- as functions

-- behind lines that say this, the line is no box where they say nothing, and else no point
abbrev pub is_misspelled : List (List ℕ) → List ℕ → Bool
is_misspelled [] line = is_none (box_of line)
is_misspelled (first ∷ more) line = is_none (point_of line)

-- a line that says something and is not what it has to be behind others
abbrev pub is_bad : List (List ℕ) → List ℕ → Bool
is_bad before line = not (is_silent line) && is_misspelled (saying before) line

-- what is wrong with a line behind others
abbrev pub fault_at : List (List ℕ) → List ℕ → Option RouteFault
fault_at before line = when (is_bad before line) (BadLine (length before + 1))

-- the box on the first line that says something, and the points on the others
abbrev pub box_on : List (List ℕ) → Option HalfWidths
box_on [] = None
box_on (first ∷ more) = box_of first

abbrev pub points_on : List (List ℕ) → List Pt
points_on [] = []
points_on (first ∷ more) = filter_map point_of more

-- what is wrong with so many points
abbrev pub count_fault : ℕ → Option RouteFault
count_fault n = first_of (when (nat_lt n 2) (Few n) ∷ when (nat_lt 1000 n) (Many n) ∷ [])

-- a route of a box and points; without a box there are no points
abbrev pub route_with : Option HalfWidths → ℕ → List Pt → Result Route RouteFault
route_with box count points =
    or_fault (Few 0) box >>= (λ b. unless (count_fault count) (record { w = b.w; h = b.h; points = points }))

-- the route of lines that say something, none of which is bad
abbrev pub route_on : List (List ℕ) → Result Route RouteFault
route_on said = route_with (box_on said) (length (points_on said)) (points_on said)

-- the route that the bytes are; or the first bad line; or the number of points
abbrev pub route_in : List ℕ → Result Route RouteFault
route_in bytes = unless (first_fault fault_at [] (lines bytes)) (saying (lines bytes)) >>= route_on
