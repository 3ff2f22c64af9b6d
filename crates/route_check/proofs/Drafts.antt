-- What is kept of lines.
use Rattle.std.proofs.Common.{◌≡◌, ℕ, ◌+◌, ◌<◌, ◌≤◌, min, Bool, true, false, cond, List, [], ◌∷◌, ◌++◌, length, take, Option, Some, None, refl, sym, ap, ◌∙◌, arith, length-append, append-nil, subst, ⊎_elim}
use Rattle.std.specs.Prelude.{Result, Ok, Err, is_none, not, nat_lt, ◌&&◌}
use Rattle.std.specs.List.{cons_option}
use Rattle.std.proofs.lemmas.Bool.{cases_lt, ltb-false}
use Rattle.std.proofs.lemmas.List.{take_all, take-append-le, length-take}
use Rattle.std.proofs.lemmas.List.Elements.{filter-append, filter_map-append}
use Rattle.chart_model.specs.Answers.{◌>>=◌, or_fault, unless, first_of, when}
use Rattle.text_lines.specs.Lines.{is_silent}
use Rattle.plane_geometry.specs.declared.point.Pt.{Pt}
use Rattle.route_check.specs.declared.line.HalfWidths.{HalfWidths}
use Rattle.route_check.specs.declared.route.Route.{Route}
use Rattle.route_check.specs.declared.draft.Draft.{Draft}
use Rattle.route_check.specs.declared.fault.RouteFault.{RouteFault}
use Rattle.route_check.specs.declared.fault.RouteFault.TheVariants.{BadLine, Few, Many}
use Rattle.route_check.specs.RouteLine.{box_of, point_of}
use Rattle.route_check.specs.Reading.{saying, is_misspelled, fault_at, box_on, points_on, route_on, route_with}
use Rattle.route_check.specs.Draft.{draft_of, KeepsFirstPoints, with_point, said_in, line_in, finished_route}

-- ---- the first of the points

-- one more of a few
pub point_kept : (points : List Pt) (p : Pt) (count : ℕ) → length points ≡ min 1000 count → count < 1000 → points ++ p ∷ [] ≡ take 1000 (points ++ p ∷ [])
point_kept points p count kept few = sym (take_all 1000 (points ++ p ∷ []) (omega (arith, length-append points (p ∷ []))))

-- one more of many
pub point_passed : (points : List Pt) (p : Pt) (count : ℕ) → length points ≡ min 1000 count → 1000 ≤ count → points ≡ take 1000 (points ++ p ∷ [])
point_passed points p count kept many = sym (take-append-le 1000 points (p ∷ []) (omega arith) ∙ take_all 1000 points (omega arith))

pub point_counted : (draft next : Draft) (p : Pt) (points : List Pt)
    → next ≡ record { half_widths = draft.half_widths; points = points; count = draft.count } → points ≡ take 1000 (draft.points ++ p ∷ [])
    → ◌≡◌ {A = Draft} (record { half_widths = next.half_widths; points = next.points; count = next.count + 1 }) (with_point draft p)
point_counted draft next p points is kept = λ i.
    record {
      half_widths = (ap (λ (d : Draft). d.half_widths) is) i;
      points = (ap (λ (d : Draft). d.points) is ∙ kept) i;
      count = (ap (λ (d : Draft). d.count + 1) is) i;
    }

first_of_first : (points : List Pt) (p : Pt) → take 1000 (take 1000 points ++ p ∷ []) ≡ take 1000 (points ++ p ∷ [])
first_of_first points p = ⊎_elim few many (cases_lt (length points) 1000)
  where
    few : length points < 1000 → take 1000 (take 1000 points ++ p ∷ []) ≡ take 1000 (points ++ p ∷ [])
    few h = ap (λ (l : List Pt). take 1000 (l ++ p ∷ [])) (take_all 1000 points (omega arith))

    many : 1000 ≤ length points → take 1000 (take 1000 points ++ p ∷ []) ≡ take 1000 (points ++ p ∷ [])
    many h =
        take-append-le 1000 (take 1000 points) (p ∷ []) (omega (arith, length-take 1000 points))
        ∙ take_all 1000 (take 1000 points) (omega (arith, length-take 1000 points))
        ∙ sym (take-append-le 1000 points (p ∷ []) h)

pub kept : (said : List (List ℕ)) → KeepsFirstPoints (draft_of said)
kept said = length-take 1000 (points_on said)

-- ---- one more line that says something

-- the first line that says something is a box
abbrev pub HasBox : List (List ℕ) → Type 0
HasBox [] = Unit {0}
HasBox (first ∷ more) = (box : HalfWidths) × (box_of first ≡ Some box)

-- what becomes of lines with one more that is taken
pub record SaidTaken (said : List (List ℕ)) (line : List ℕ) (next : Draft) : Type 0 where
  pub faultless : is_misspelled said line ≡ false
  pub drafted : next ≡ draft_of (said ++ line ∷ [])
  pub boxed : HasBox (said ++ line ∷ [])

abbrev ok : Draft → Result Draft RouteFault
ok d = Ok d

is_ok_of : (a b : Draft) → ok a ≡ Ok b → a ≡ b
is_ok_of a b e = cc

draft_more : (first line : List ℕ) (more : List (List ℕ)) (p : Pt) → point_of line ≡ Some p
    → with_point (draft_of (first ∷ more)) p ≡ draft_of ((first ∷ more) ++ line ∷ [])
draft_more first line more p is =
    let points = points_on (first ∷ more) in
    let next : points_on ((first ∷ more) ++ line ∷ []) ≡ points ++ p ∷ [] =
    filter_map-append point_of more (line ∷ []) ∙ ap (λ (o : Option Pt). points ++ cons_option o []) is in
    λ i. record {
      half_widths = box_of first;
      points = (first_of_first points p ∙ ap (take 1000) (sym next)) i;
      count = (let c : length points + 1 ≡ length (points_on ((first ∷ more) ++ line ∷ [])) = omega (arith, length-append points (p ∷ []), ap length next) in c) i;
    }

pub said_taken : (said : List (List ℕ)) (line : List ℕ) (number : ℕ) (next : Draft) → HasBox said → said_in (box_on said) (draft_of said) number line ≡ Ok next → SaidTaken said line next
said_taken [] line number next boxed e = by (box_of line) refl e
  where
    by : (o : Option HalfWidths) → box_of line ≡ o
        → (or_fault (BadLine number) o >>= (λ box. ok (record { half_widths = Some box; points = take 1000 []; count = 0 }))) ≡ Ok next
        → SaidTaken [] line next
    by None is e = absurd cc
    by (Some box) is e = record {
      faultless = ap is_none is;
      drafted = sym (is_ok_of _ next e) ∙ ap (λ (o : Option HalfWidths). record { half_widths = o; points = take 1000 []; count = 0 }) (sym is);
      boxed = (box, is);
    }
said_taken (first ∷ more) line number next boxed e =
    by (point_of line) refl (ap (λ (o : Option HalfWidths). said_in o (draft_of (first ∷ more)) number line) (sym boxed.1) ∙ e)
  where
    by : (o : Option Pt) → point_of line ≡ o
        → (or_fault (BadLine number) o >>= (λ p. ok (with_point (draft_of (first ∷ more)) p))) ≡ Ok next
        → SaidTaken (first ∷ more) line next
    by None is e = absurd cc
    by (Some p) is e = record {
      faultless = ap is_none is;
      drafted = sym (is_ok_of _ next e) ∙ draft_more first line more p is;
      boxed = boxed;
    }

err_is : (f g : RouteFault) → ◌≡◌ {A = Result Draft RouteFault} (Err f) (Err g) → f ≡ g
err_is f g e = cc

pub said_refused : (said : List (List ℕ)) (line : List ℕ) (number : ℕ) (f : RouteFault) → HasBox said → said_in (box_on said) (draft_of said) number line ≡ Err f
    → (is_misspelled said line ≡ true) × (BadLine number ≡ f)
said_refused [] line number f boxed e = by (box_of line) refl e
  where
    by : (o : Option HalfWidths) → box_of line ≡ o
        → (or_fault (BadLine number) o >>= (λ box. ok (record { half_widths = Some box; points = take 1000 []; count = 0 }))) ≡ Err f
        → (is_misspelled [] line ≡ true) × (BadLine number ≡ f)
    by None is e = (ap is_none is, err_is _ f e)
    by (Some box) is e = absurd cc
said_refused (first ∷ more) line number f boxed e =
    by (point_of line) refl (ap (λ (o : Option HalfWidths). said_in o (draft_of (first ∷ more)) number line) (sym boxed.1) ∙ e)
  where
    by : (o : Option Pt) → point_of line ≡ o
        → (or_fault (BadLine number) o >>= (λ p. ok (with_point (draft_of (first ∷ more)) p))) ≡ Err f
        → (is_misspelled (first ∷ more) line ≡ true) × (BadLine number ≡ f)
    by None is e = (ap is_none is, err_is _ f e)
    by (Some p) is e = absurd cc

-- ---- one more line

saying_one : (before : List (List ℕ)) (line : List ℕ) (b : Bool) → is_silent line ≡ b → saying (before ++ line ∷ []) ≡ saying before ++ cond (not b) (line ∷ []) []
saying_one before line b is =
    filter-append (λ l. not (is_silent l)) before (line ∷ [])
    ∙ ap (λ (c : Bool). saying before ++ cond (not c) (line ∷ []) []) is

pub saying_same : (before : List (List ℕ)) (line : List ℕ) → is_silent line ≡ true → saying (before ++ line ∷ []) ≡ saying before
saying_same before line is = saying_one before line true is ∙ append-nil (saying before)

pub saying_more : (before : List (List ℕ)) (line : List ℕ) → is_silent line ≡ false → saying (before ++ line ∷ []) ≡ saying before ++ line ∷ []
saying_more before line is = saying_one before line false is

pub record LineTaken (before : List (List ℕ)) (line : List ℕ) (next : Draft) : Type 0 where
  pub faultless : fault_at before line ≡ None
  pub drafted : next ≡ draft_of (saying (before ++ line ∷ []))
  pub boxed : HasBox (saying (before ++ line ∷ []))

fault_silent : (before : List (List ℕ)) (line : List ℕ) → is_silent line ≡ true → fault_at before line ≡ None
fault_silent before line is = ap (λ (b : Bool). when (not b && is_misspelled (saying before) line) (BadLine (length before + 1))) is

fault_said : (before : List (List ℕ)) (line : List ℕ) (b : Bool) → is_silent line ≡ false → is_misspelled (saying before) line ≡ b
    → fault_at before line ≡ when b (BadLine (length before + 1))
fault_said before line b speaks is = λ i. when (not (speaks i) && is i) (BadLine (length before + 1))

-- a line that was taken
pub line_taken : (before : List (List ℕ)) (line : List ℕ) (next : Draft) → HasBox (saying before)
    → line_in (draft_of (saying before)) (length before + 1) line ≡ Ok next → LineTaken before line next
line_taken before line next boxed e = by (is_silent line) refl e
  where
    by : (b : Bool) → is_silent line ≡ b
        → cond b (ok (draft_of (saying before))) (said_in (box_on (saying before)) (draft_of (saying before)) (length before + 1) line) ≡ Ok next
        → LineTaken before line next
    by true is e =
        let same = sym (saying_same before line is) in
        record {
          faultless = fault_silent before line is;
          drafted = sym (is_ok_of _ next e) ∙ ap draft_of same;
          boxed = subst HasBox same boxed;
        }
    by false is e =
        let taken = said_taken (saying before) line (length before + 1) next boxed e in
        let more = sym (saying_more before line is) in
        record {
          faultless = fault_said before line false is taken.faultless;
          drafted = taken.drafted ∙ ap draft_of more;
          boxed = subst HasBox more taken.boxed;
        }

-- a line that was refused
pub line_refused : (before : List (List ℕ)) (line : List ℕ) (f : RouteFault) → HasBox (saying before)
    → line_in (draft_of (saying before)) (length before + 1) line ≡ Err f → fault_at before line ≡ Some f
line_refused before line f boxed e = by (is_silent line) refl e
  where
    by : (b : Bool) → is_silent line ≡ b
        → cond b (ok (draft_of (saying before))) (said_in (box_on (saying before)) (draft_of (saying before)) (length before + 1) line) ≡ Err f
        → fault_at before line ≡ Some f
    by true is e = absurd cc
    by false is e =
        let refused = said_refused (saying before) line (length before + 1) f boxed e in
        fault_said before line true is refused.0 ∙ ap (λ (g : RouteFault). Some g) refused.1

-- ---- the route of all lines

abbrev route_of : HalfWidths → List Pt → Route
route_of box points = record { w = box.w; h = box.h; points = points }

-- where so many points are no fault, all are kept
pub finished-draft_of : (said : List (List ℕ)) → finished_route (draft_of said) ≡ route_on said
finished-draft_of said = by (box_on said)
  where
    by : (o : Option HalfWidths) → route_with o (length (points_on said)) (take 1000 (points_on said)) ≡ route_with o (length (points_on said)) (points_on said)
    by None = refl
    by (Some box) = few (nat_lt (length (points_on said)) 2) (nat_lt 1000 (length (points_on said))) refl
      where
        few : (a b : Bool) → nat_lt 1000 (length (points_on said)) ≡ b
            → unless (first_of (when a (Few (length (points_on said))) ∷ when b (Many (length (points_on said))) ∷ [])) (route_of box (take 1000 (points_on said)))
            ≡ unless (first_of (when a (Few (length (points_on said))) ∷ when b (Many (length (points_on said))) ∷ [])) (route_of box (points_on said))
        few true b is = refl
        few false true is = refl
        few false false is = ap (λ (l : List Pt). Ok (route_of box l)) (take_all 1000 (points_on said) (ltb-false 1000 (length (points_on said)) is))
