-- A route line by line, as its reader keeps it.
use Rattle.std.specs.Prelude.{◌≡◌, ℕ, ◌+◌, min, if◌then◌else◌, List, [], ◌∷◌, ◌++◌, length, take}
use Rattle.std.specs.Prelude.{Option, Some, None, Result, Ok}
use Rattle.chart_model.specs.Answers.{◌>>=◌, or_fault}
use Rattle.text_lines.specs.Lines.{is_silent}
use Rattle.plane_geometry.specs.declared.point.Pt.{Pt}
use Rattle.route_check.specs.declared.line.HalfWidths.{HalfWidths}
use Rattle.route_check.specs.declared.route.Route.{Route}
use Rattle.route_check.specs.declared.draft.Draft.{Draft}
use Rattle.route_check.specs.declared.fault.RouteFault.{RouteFault}
use Rattle.route_check.specs.declared.fault.RouteFault.TheVariants.{BadLine}
use Rattle.route_check.specs.RouteLine.{box_of, point_of}
use Rattle.route_check.specs.Reading.{box_on, points_on, route_with}

-- what is kept of lines that say something: their box, the first 1,000 points, and how many points there are
abbrev pub draft_of : List (List ℕ) → Draft
draft_of said = record {
  half_widths = box_on said;
  points = take 1000 (points_on said);
  count = length (points_on said);
}

-- all points are kept up to 1,000
abbrev pub KeepsFirstPoints : Draft → Type 0
KeepsFirstPoints draft = length draft.points ≡ min 1000 draft.count

-- with one point more
abbrev pub with_point : Draft → Pt → Draft
with_point draft p = record {
  half_widths = draft.half_widths;
  points = take 1000 (draft.points ++ p ∷ []);
  count = draft.count + 1;
}

-- with one more line that says something
abbrev pub said_in : Option HalfWidths → Draft → ℕ → List ℕ → Result Draft RouteFault
said_in None draft number line =
    or_fault (BadLine number) (box_of line)
    >>= (λ box. Ok (record { half_widths = Some box; points = draft.points; count = draft.count }))
said_in (Some box) draft number line =
    or_fault (BadLine number) (point_of line) >>= (λ p. Ok (with_point draft p))

-- with one more line
abbrev pub line_in : Draft → ℕ → List ℕ → Result Draft RouteFault
line_in draft number line = if is_silent line then Ok draft else said_in draft.half_widths draft number line

-- the route of all of them
abbrev pub finished_route : Draft → Result Route RouteFault
finished_route draft = route_with draft.half_widths draft.count draft.points
