-- What whole files of routes are, as they are spelled.
use Rattle.std.proofs.Common.{◌≡◌, ◌≢◌, ℕ, ◌+◌, ◌<◌, Bool, true, false, cond, List, [], ◌∷◌, ◌++◌, length, Option, Some, None, refl, sym, ap, ◌∙◌, subst, arith, ◌↔◌, append_assoc, append-nil, inl, inr}
use Rattle.std.specs.Prelude.{Result, Ok, Err, is_none, not, ◌&&◌, ◌⊎◌, nat_lt}
use Rattle.std.specs.Bool.{Decides}
use Rattle.std.specs.Option.{option_or}
use Rattle.std.specs.List.{AllZip, filter_map, cons_option}
use Rattle.std.specs.Str.Lines.{lines}
use Rattle.std.proofs.lemmas.Bool.{ltb-true, ltb-false, true≢false}
use Rattle.std.proofs.lemmas.Bool.Decides.{nat_tests}
use Rattle.std.proofs.lemmas.List.Elements.{filter-append, filter_map-append}
use Rattle.std.proofs.lemmas.Slice.Zip.{all_zipped_more}
use Rattle.chart_model.specs.Answers.{◌>>=◌, unless, first_of, when}
use Rattle.text_lines.specs.Lines.{IsSilent, is_silent}
use Rattle.text_lines.specs.Reading.{first_fault}
use Rattle.text_lines.proofs.FirstFaults.{no_fault-from, has_first-to, has_first-from}
use Rattle.plane_geometry.specs.declared.point.Pt.{Pt}
use Rattle.route_check.specs.declared.line.HalfWidths.{HalfWidths}
use Rattle.route_check.specs.declared.route.Route.{Route}
use Rattle.route_check.specs.declared.fault.RouteFault.{RouteFault}
use Rattle.route_check.specs.declared.fault.RouteFault.TheVariants.{BadLine, Few, Many, NoMemory}
use Rattle.route_check.specs.PointCount.{IsPointCount}
use Rattle.route_check.specs.RouteLine.{SpellsBox, SpellsPoint, box_of, point_of}
use Rattle.route_check.specs.Reading.{saying, SpellsWay, SpellsRoute, HasPoints, IsUnderstood, HasFirstBad, is_misspelled, is_bad, fault_at, count_fault, route_with, route_on, route_in}
use Rattle.route_check.proofs.Drafts.{saying_same, saying_more}

-- ---- lists

joined_cons : {A : Type 0} (x y : A) (xs ys : List A) → x ∷ xs ≡ y ∷ ys → (x ≡ y) × (xs ≡ ys)
joined_cons x y xs ys e = (cc, cc)

-- a line that says something stands among those that do
saying_at : (front back : List (List ℕ)) (line : List ℕ) → is_silent line ≡ false → saying (front ++ line ∷ back) ≡ saying front ++ line ∷ saying back
saying_at front back line speaks =
    filter-append (λ l. not (is_silent l)) front (line ∷ back)
    ∙ ap (λ (b : Bool). saying front ++ cond (not b) (line ∷ saying back) (saying back)) speaks

silent_tests : (line : List ℕ) → Decides (is_silent line) (IsSilent line)
silent_tests [] = (λ _. tt, λ _. refl)
silent_tests (first ∷ rest) = (λ h. grind (arith, nat_tests), λ h. grind (arith, nat_tests))

-- the value that is not missing
there : {A : Type 0} (o : Option A) → is_none o ≡ false → (x : A) × (o ≡ Some x)
there None e = absurd (true≢false e)
there (Some x) e = (x, refl)

-- ---- how many points

-- what so many points are
pub record IsFit (n : ℕ) : Type 0 where
  pub range : IsPointCount n
  pub fault : count_fault n ≡ None

pub record IsFew (n : ℕ) : Type 0 where
  pub range : n < 2
  pub fault : count_fault n ≡ Some (Few n)

pub record IsMany (n : ℕ) : Type 0 where
  pub range : 1000 < n
  pub fault : count_fault n ≡ Some (Many n)

counted : (n : ℕ) → IsFit n ⊎ (IsFew n ⊎ IsMany n)
counted n = by (nat_lt n 2) (nat_lt 1000 n) refl refl
  where
    by : (a b : Bool) → nat_lt n 2 ≡ a → nat_lt 1000 n ≡ b → IsFit n ⊎ (IsFew n ⊎ IsMany n)
    by true b few many = inr (inl (record {
      range = ltb-true n 2 few;
      fault = λ i. first_of (when (few i) (Few n) ∷ when (nat_lt 1000 n) (Many n) ∷ []);
    }))
    by false true few many = inr (inr (record {
      range = ltb-true 1000 n many;
      fault = λ i. first_of (when (few i) (Few n) ∷ when (many i) (Many n) ∷ []);
    }))
    by false false few many = inl (record {
      range = (ltb-false n 2 few, ltb-false 1000 n many);
      fault = λ i. first_of (when (few i) (Few n) ∷ when (many i) (Many n) ∷ []);
    })

fit_count : (n : ℕ) → IsPointCount n → count_fault n ≡ None
fit_count n h = by (counted n)
  where
    by : IsFit n ⊎ (IsFew n ⊎ IsMany n) → count_fault n ≡ None
    by (inl fit) = fit.fault
    by (inr (inl few)) = absurd (omega (arith, few.range))
    by (inr (inr many)) = absurd (omega (arith, many.range))

few_count : (n : ℕ) → n < 2 → count_fault n ≡ Some (Few n)
few_count n h = by (counted n)
  where
    by : IsFit n ⊎ (IsFew n ⊎ IsMany n) → count_fault n ≡ Some (Few n)
    by (inl fit) = absurd (omega (arith, fit.range.0))
    by (inr (inl few)) = few.fault
    by (inr (inr many)) = absurd (omega (arith, many.range))

many_count : (n : ℕ) → 1000 < n → count_fault n ≡ Some (Many n)
many_count n h = by (counted n)
  where
    by : IsFit n ⊎ (IsFew n ⊎ IsMany n) → count_fault n ≡ Some (Many n)
    by (inl fit) = absurd (omega (arith, fit.range.1))
    by (inr (inl few)) = absurd (omega (arith, few.range))
    by (inr (inr many)) = many.fault

-- ---- lines that say something and are not bad: a box and points

abbrev IsPoint : List ℕ → Pt → Type 0
IsPoint line p = point_of line ≡ Some p

abbrev IsWay : List (List ℕ) → Type 0
IsWay [] = Unit {0}
IsWay (first ∷ more) = ((box : HalfWidths) × (box_of first ≡ Some box)) × AllZip IsPoint more (filter_map point_of more)

said_way : (said : List (List ℕ)) (line : List ℕ) → IsWay said → is_misspelled said line ≡ false → IsWay (said ++ line ∷ [])
said_way [] line way faultless = (there (box_of line) faultless, tt)
said_way (first ∷ more) line way faultless =
    let p = there (point_of line) faultless in
    let points = filter_map-append point_of more (line ∷ []) ∙ ap (λ (o : Option Pt). filter_map point_of more ++ cons_option o []) p.1 in
    (way.0, subst (AllZip IsPoint (more ++ line ∷ [])) (sym points) (all_zipped_more IsPoint more (filter_map point_of more) line p.0 way.1 p.1))

is_false : {F : Type 0} (f : F) (b : Bool) → when b f ≡ None → b ≡ false
is_false f true e = absurd cc
is_false f false e = refl

line_way : (before : List (List ℕ)) (line : List ℕ) → IsWay (saying before) → fault_at before line ≡ None → IsWay (saying (before ++ line ∷ []))
line_way before line way faultless = by (is_silent line) refl (is_false (BadLine (length before + 1)) (is_bad before line) faultless)
  where
    by : (b : Bool) → is_silent line ≡ b → (not b && is_misspelled (saying before) line) ≡ false → IsWay (saying (before ++ line ∷ []))
    by true is e = subst IsWay (sym (saying_same before line is)) way
    by false is e = subst IsWay (sym (saying_more before line is)) (said_way (saying before) line way e)

none_first : {F : Type 0} (a b : Option F) → option_or a b ≡ None → (a ≡ None) × (b ≡ None)
none_first None b e = (refl, e)
none_first (Some f) b e = absurd cc

way_behind : (before xs : List (List ℕ)) → IsWay (saying before) → first_fault fault_at before xs ≡ None → IsWay (saying (before ++ xs))
unfolding first_fault
way_behind before [] way faultless = subst (λ (l : List (List ℕ)). IsWay (saying l)) (sym (append-nil before)) way
way_behind before (x ∷ xs) way faultless =
    let here = none_first (fault_at before x) (first_fault fault_at (before ++ x ∷ []) xs) faultless in
    subst (λ (l : List (List ℕ)). IsWay (saying l)) (append_assoc before (x ∷ []) xs)
    (way_behind (before ++ x ∷ []) xs (line_way before x way here.0) here.1)

way_of : (all : List (List ℕ)) → first_fault fault_at [] all ≡ None → IsWay (saying all)
way_of all faultless = way_behind [] all tt faultless

-- ---- as they are spelled

abbrev pub BoxesAreSpelled : Type 0
BoxesAreSpelled = (line : List ℕ) (w h : ℕ) → (box_of line ≡ Some (record { w = w; h = h })) ↔ SpellsBox line w h

abbrev pub PointsAreSpelled : Type 0
PointsAreSpelled = (line : List ℕ) (p : Pt) → (point_of line ≡ Some p) ↔ SpellsPoint line p

points_spelled : PointsAreSpelled → (more : List (List ℕ)) (points : List Pt) → AllZip IsPoint more points → AllZip SpellsPoint more points
points_spelled law [] [] h = tt
points_spelled law [] (p ∷ points) h = absurd h
points_spelled law (line ∷ more) [] h = absurd h
points_spelled law (line ∷ more) (p ∷ points) h = ((law line p).0 h.0, points_spelled law more points h.1)

points_told : PointsAreSpelled → (more : List (List ℕ)) (points : List Pt) → AllZip SpellsPoint more points → filter_map point_of more ≡ points
points_told law [] [] h = refl
points_told law [] (p ∷ points) h = absurd h
points_told law (line ∷ more) [] h = absurd h
points_told law (line ∷ more) (p ∷ points) h = λ i. cons_option ((law line p).1 h.0 i) (points_told law more points h.1 i)

way_spelled : BoxesAreSpelled → PointsAreSpelled → (said more : List (List ℕ)) (first : List ℕ) (box : HalfWidths)
    → said ≡ first ∷ more → box_of first ≡ Some box → AllZip IsPoint more (filter_map point_of more) → SpellsWay said box.w box.h (filter_map point_of more)
way_spelled boxes law said more first box whole is zipped = record {
  box_line = first;
  point_lines = more;
  whole = whole;
  box = (boxes first box.w box.h).0 is;
  spelled = points_spelled law more (filter_map point_of more) zipped;
}

-- a way's route
way_told : BoxesAreSpelled → PointsAreSpelled → (said : List (List ℕ)) (w h : ℕ) (points : List Pt) → SpellsWay said w h points
    → route_on said ≡ unless (count_fault (length points)) (record { w = w; h = h; points = points })
way_told boxes law said w h points way =
    ap route_on way.whole
    ∙ (λ i. route_with ((boxes way.box_line w h).1 way.box i) (length (points_told law way.point_lines points way.spelled i)) (points_told law way.point_lines points way.spelled i))

-- ---- lines that are understood

no_fault : {F : Type 0} (f : F) (a b : Bool) → b ≡ false → when (a && b) f ≡ None
no_fault f true b e = ap (λ (c : Bool). when c f) e
no_fault f false b e = refl

understood-to : BoxesAreSpelled → PointsAreSpelled → (before : List (List ℕ)) (line : List ℕ) → fault_at before line ≡ None → IsUnderstood before line
understood-to boxes law before line faultless = by (is_silent line) refl (is_false (BadLine (length before + 1)) (is_bad before line) faultless)
  where
    said : (l : List (List ℕ)) → saying before ≡ l → is_misspelled l line ≡ false → IsUnderstood before line
    said [] is e = let box = there (box_of line) e in inr (inl (is, (box.0.w, box.0.h, (boxes line box.0.w box.0.h).0 box.1)))
    said (first ∷ more) is e =
        let p = there (point_of line) e in
        inr (inr ((λ none. let no : first ∷ more ≡ [] = sym is ∙ none in absurd cc), (p.0, (law line p.0).0 p.1)))

    by : (b : Bool) → is_silent line ≡ b → (not b && is_misspelled (saying before) line) ≡ false → IsUnderstood before line
    by true is e = inl ((silent_tests line).0 is)
    by false is e = said (saying before) refl e

understood-from : BoxesAreSpelled → PointsAreSpelled → (before : List (List ℕ)) (line : List ℕ) → IsUnderstood before line → fault_at before line ≡ None
understood-from boxes law before line (inl silent) =
    ap (λ (b : Bool). when (not b && is_misspelled (saying before) line) (BadLine (length before + 1))) ((silent_tests line).1 silent)
understood-from boxes law before line (inr (inl s)) =
    no_fault (BadLine (length before + 1)) (not (is_silent line)) (is_misspelled (saying before) line)
    (ap (λ (l : List (List ℕ)). is_misspelled l line) s.0 ∙ ap is_none ((boxes line s.1.0 s.1.1).1 s.1.2))
understood-from boxes law before line (inr (inr s)) =
    no_fault (BadLine (length before + 1)) (not (is_silent line)) (is_misspelled (saying before) line) (by (saying before) s.0)
  where
    by : (l : List (List ℕ)) → l ≢ [] → is_misspelled l line ≡ false
    by [] some = absurd (some refl)
    by (first ∷ more) some = ap is_none ((law line s.1.0).1 s.1.1)

bad-from : BoxesAreSpelled → PointsAreSpelled → (before : List (List ℕ)) (line : List ℕ) → ¬ IsUnderstood before line → fault_at before line ≡ Some (BadLine (length before + 1))
bad-from boxes law before line bad = by (is_bad before line) refl
  where
    by : (b : Bool) → is_bad before line ≡ b → when b (BadLine (length before + 1)) ≡ Some (BadLine (length before + 1))
    by true is = refl
    by false is = absurd (bad (understood-to boxes law before line (ap (λ (b : Bool). when b (BadLine (length before + 1))) is)))

-- a fault is that of a bad line
bad-to : BoxesAreSpelled → PointsAreSpelled → (before : List (List ℕ)) (line : List ℕ) (f : RouteFault) → fault_at before line ≡ Some f
    → (¬ IsUnderstood before line) × (BadLine (length before + 1) ≡ f)
bad-to boxes law before line f e = by (is_bad before line) refl e
  where
    by : (b : Bool) → is_bad before line ≡ b → when b (BadLine (length before + 1)) ≡ Some f → (¬ IsUnderstood before line) × (BadLine (length before + 1) ≡ f)
    by true is e = ((λ u. let none = understood-from boxes law before line u in let some = ap (λ (b : Bool). when b (BadLine (length before + 1))) is in absurd cc), cc)
    by false is e = absurd cc

first_bad-to : BoxesAreSpelled → PointsAreSpelled → (all : List (List ℕ)) (f : RouteFault) → first_fault fault_at [] all ≡ Some f → (n : ℕ) × HasFirstBad all n × (f ≡ BadLine n)
first_bad-to boxes law all f e =
    let h = has_first-from fault_at all f e in
    let bad = bad-to boxes law h.before h.line f h.here in (
      length h.before + 1,
      record {
        before = h.before;
        line = h.line;
        rest = h.rest;
        whole = h.whole;
        number = refl;
        understood = λ front back other whole. understood-to boxes law front other (h.faultless front back other whole);
        bad = bad.0;
      },
      sym bad.1,
    )

first_bad-from : BoxesAreSpelled → PointsAreSpelled → (all : List (List ℕ)) (n : ℕ) → HasFirstBad all n → first_fault fault_at [] all ≡ Some (BadLine n)
first_bad-from boxes law all n h =
    has_first-to fault_at all (BadLine n) (record {
      before = h.before;
      line = h.line;
      rest = h.rest;
      whole = h.whole;
      faultless = λ front back other whole. understood-from boxes law front other (h.understood front back other whole);
      here = bad-from boxes law h.before h.line h.bad ∙ ap (λ (k : ℕ). Some (BadLine k)) (sym h.number);
    })

-- ---- a way has no bad line

among : (R : List ℕ → Pt → Type 0) (xs ys : List (List ℕ)) (x : List ℕ) (ps : List Pt) → AllZip R (xs ++ x ∷ ys) ps → (p : Pt) × R x p
among R [] ys x [] h = absurd h
among R [] ys x (p ∷ ps) h = (p, h.0)
among R (y ∷ xs) ys x [] h = absurd h
among R (y ∷ xs) ys x (p ∷ ps) h = among R xs ys x ps h.1

way_understood : (all : List (List ℕ)) (w h : ℕ) (points : List Pt) → SpellsWay (saying all) w h points
    → (front back : List (List ℕ)) (line : List ℕ) → all ≡ front ++ line ∷ back → IsUnderstood front line
way_understood all w h points way front back line whole = by (is_silent line) refl
  where
    said : (l : List (List ℕ)) → saying front ≡ l → l ++ line ∷ saying back ≡ way.box_line ∷ way.point_lines → IsUnderstood front line
    said [] is e =
        let same = joined_cons line way.box_line (saying back) way.point_lines e in
        inr (inl (is, (w, h, subst (λ (l : List ℕ). SpellsBox l w h) (sym same.0) way.box)))
    said (first ∷ more) is e =
        let same = joined_cons first way.box_line (more ++ line ∷ saying back) way.point_lines e in
        let p = among SpellsPoint more (saying back) line points (subst (λ (l : List (List ℕ)). AllZip SpellsPoint l points) (sym same.1) way.spelled) in
        inr (inr ((λ none. let no : first ∷ more ≡ [] = sym is ∙ none in absurd cc), (p.0, p.1)))

    by : (b : Bool) → is_silent line ≡ b → IsUnderstood front line
    by true is = inl ((silent_tests line).0 is)
    by false is = said (saying front) refl (sym (saying_at front back line is) ∙ ap saying (sym whole) ∙ way.whole)

silence_understood : (all : List (List ℕ)) → saying all ≡ [] → (front back : List (List ℕ)) (line : List ℕ) → all ≡ front ++ line ∷ back → IsUnderstood front line
silence_understood all none front back line whole = by (is_silent line) refl
  where
    no_end : (l : List (List ℕ)) → l ++ line ∷ saying back ≢ []
    no_end [] e = absurd cc
    no_end (first ∷ more) e = absurd cc

    by : (b : Bool) → is_silent line ≡ b → IsUnderstood front line
    by true is = inl ((silent_tests line).0 is)
    by false is = absurd (no_end (saying front) (sym (saying_at front back line is) ∙ ap saying (sym whole) ∙ none))

-- ---- the answers, from what the file is

faultless_route : (bytes : List ℕ) → first_fault fault_at [] (lines bytes) ≡ None → route_in bytes ≡ route_on (saying (lines bytes))
faultless_route bytes is = ap (λ (o : Option RouteFault). unless o (saying (lines bytes)) >>= route_on) is

understood_route : BoxesAreSpelled → PointsAreSpelled → (bytes : List ℕ)
    → ((front back : List (List ℕ)) (line : List ℕ) → lines bytes ≡ front ++ line ∷ back → IsUnderstood front line)
    → route_in bytes ≡ route_on (saying (lines bytes))
understood_route boxes law bytes understood =
    faultless_route bytes (no_fault-from fault_at (lines bytes) (λ front back line whole. understood-from boxes law front line (understood front back line whole)))

way_route : BoxesAreSpelled → PointsAreSpelled → (bytes : List ℕ) (w h : ℕ) (points : List Pt) (o : Option RouteFault) → SpellsWay (saying (lines bytes)) w h points
    → count_fault (length points) ≡ o → route_in bytes ≡ unless o (record { w = w; h = h; points = points })
way_route boxes law bytes w h points o way is =
    understood_route boxes law bytes (way_understood (lines bytes) w h points way)
    ∙ way_told boxes law (saying (lines bytes)) w h points way
    ∙ ap (λ (f : Option RouteFault). unless f (record { w = w; h = h; points = points })) is

pub route-from : BoxesAreSpelled → PointsAreSpelled → (bytes : List ℕ) (route : Route) → SpellsRoute (lines bytes) route → route_in bytes ≡ Ok route
route-from boxes law bytes route s = way_route boxes law bytes route.w route.h route.points None s.way (fit_count (length route.points) s.count)

pub bad_line-from : BoxesAreSpelled → PointsAreSpelled → (bytes : List ℕ) (n : ℕ) → HasFirstBad (lines bytes) n → route_in bytes ≡ Err (BadLine n)
bad_line-from boxes law bytes n h =
    ap (λ (o : Option RouteFault). unless o (saying (lines bytes)) >>= route_on) (first_bad-from boxes law (lines bytes) n h)

pub few-from : BoxesAreSpelled → PointsAreSpelled → (bytes : List ℕ) (n : ℕ) → HasPoints (lines bytes) n → n < 2 → route_in bytes ≡ Err (Few n)
few-from boxes law bytes n (inl s) few =
    understood_route boxes law bytes (silence_understood (lines bytes) s.0) ∙ ap route_on s.0 ∙ ap (λ (k : ℕ). Err (Few k)) (sym s.1)
few-from boxes law bytes n (inr s) few =
    way_route boxes law bytes s.0 s.1 s.2 (Some (Few n)) s.3 (ap count_fault (sym s.4) ∙ few_count n few)

pub many-from : BoxesAreSpelled → PointsAreSpelled → (bytes : List ℕ) (n : ℕ) → HasPoints (lines bytes) n → 1000 < n → route_in bytes ≡ Err (Many n)
many-from boxes law bytes n (inl s) many = absurd (omega (arith, s.1))
many-from boxes law bytes n (inr s) many =
    way_route boxes law bytes s.0 s.1 s.2 (Some (Many n)) s.3 (ap count_fault (sym s.4) ∙ many_count n many)

-- ---- what the file is, whatever the bytes

pub record IsRead (bytes : List ℕ) (route : Route) : Type 0 where
  pub answer : route_in bytes ≡ Ok route
  pub spelled : SpellsRoute (lines bytes) route

pub record IsBadAt (bytes : List ℕ) (n : ℕ) : Type 0 where
  pub answer : route_in bytes ≡ Err (BadLine n)
  pub bad : HasFirstBad (lines bytes) n

pub record HasFew (bytes : List ℕ) (n : ℕ) : Type 0 where
  pub answer : route_in bytes ≡ Err (Few n)
  pub points : HasPoints (lines bytes) n
  pub range : n < 2

pub record HasMany (bytes : List ℕ) (n : ℕ) : Type 0 where
  pub answer : route_in bytes ≡ Err (Many n)
  pub points : HasPoints (lines bytes) n
  pub range : 1000 < n

abbrev pub Outcome : List ℕ → Type 0
Outcome bytes = ((route : Route) × IsRead bytes route) ⊎ (((n : ℕ) × IsBadAt bytes n) ⊎ (((n : ℕ) × HasFew bytes n) ⊎ ((n : ℕ) × HasMany bytes n)))

way_outcome : BoxesAreSpelled → PointsAreSpelled → (bytes : List ℕ) (w h : ℕ) (points : List Pt) → SpellsWay (saying (lines bytes)) w h points → Outcome bytes
way_outcome boxes law bytes w h points way = by (counted (length points))
  where
    by : IsFit (length points) ⊎ (IsFew (length points) ⊎ IsMany (length points)) → Outcome bytes
    by (inl fit) = inl (
      record { w = w; h = h; points = points },
      record {
        answer = way_route boxes law bytes w h points None way fit.fault;
        spelled = record { way = way; count = fit.range };
      },
    )
    by (inr (inl few)) = inr (inr (inl (
      length points,
      record {
        answer = way_route boxes law bytes w h points (Some (Few (length points))) way few.fault;
        points = inr (w, h, points, way, refl);
        range = few.range;
      },
    )))
    by (inr (inr many)) = inr (inr (inr (
      length points,
      record {
        answer = way_route boxes law bytes w h points (Some (Many (length points))) way many.fault;
        points = inr (w, h, points, way, refl);
        range = many.range;
      },
    )))

faultless_outcome : BoxesAreSpelled → PointsAreSpelled → (bytes : List ℕ) → first_fault fault_at [] (lines bytes) ≡ None → Outcome bytes
faultless_outcome boxes law bytes faultless = by (saying (lines bytes)) refl (way_of (lines bytes) faultless)
  where
    by : (said : List (List ℕ)) → saying (lines bytes) ≡ said → IsWay said → Outcome bytes
    by [] is way = inr (inr (inl (
      0,
      record {
        answer = faultless_route bytes faultless ∙ ap route_on is;
        points = inl (is, refl);
        range = omega arith;
      },
    )))
    by (first ∷ more) is way =
        way_outcome boxes law bytes way.0.0.w way.0.0.h (filter_map point_of more)
        (way_spelled boxes law (saying (lines bytes)) more first way.0.0 is way.0.1 way.1)

pub outcome : BoxesAreSpelled → PointsAreSpelled → (bytes : List ℕ) → Outcome bytes
outcome boxes law bytes = by (first_fault fault_at [] (lines bytes)) refl
  where
    by : (o : Option RouteFault) → first_fault fault_at [] (lines bytes) ≡ o → Outcome bytes
    by None is = faultless_outcome boxes law bytes is
    by (Some f) is =
        let bad = first_bad-to boxes law (lines bytes) f is in
        inr (inl (
          bad.0,
          record {
            answer = bad_line-from boxes law bytes bad.0 bad.1;
            bad = bad.1;
          },
        ))

-- ---- what the file is, from the answers

abbrev Answer : Type 0
Answer = Result Route RouteFault

one_ok : (a : Answer) (r s : Route) → a ≡ Ok r → a ≡ Ok s → r ≡ s
one_ok a r s p q = let e : ◌≡◌ {A = Answer} (Ok r) (Ok s) = sym p ∙ q in cc

one_err : (a : Answer) (f g : RouteFault) → a ≡ Err f → a ≡ Err g → f ≡ g
one_err a f g p q = let e : ◌≡◌ {A = Answer} (Err f) (Err g) = sym p ∙ q in cc

ok_err : {A : Type 0} (a : Answer) (r : Route) (f : RouteFault) → a ≡ Ok r → a ≡ Err f → A
ok_err a r f p q = let e : ◌≡◌ {A = Answer} (Ok r) (Err f) = sym p ∙ q in absurd cc

pub route-to : (bytes : List ℕ) (route : Route) → Outcome bytes → route_in bytes ≡ Ok route → SpellsRoute (lines bytes) route
route-to bytes route (inl s) e = subst (SpellsRoute (lines bytes)) (one_ok (route_in bytes) s.0 route s.1.answer e) s.1.spelled
route-to bytes route (inr (inl s)) e = ok_err (route_in bytes) route (BadLine s.0) e s.1.answer
route-to bytes route (inr (inr (inl s))) e = ok_err (route_in bytes) route (Few s.0) e s.1.answer
route-to bytes route (inr (inr (inr s))) e = ok_err (route_in bytes) route (Many s.0) e s.1.answer

pub bad_line-to : (bytes : List ℕ) (n : ℕ) → Outcome bytes → route_in bytes ≡ Err (BadLine n) → HasFirstBad (lines bytes) n
bad_line-to bytes n (inl s) e = ok_err (route_in bytes) s.0 (BadLine n) s.1.answer e
bad_line-to bytes n (inr (inl s)) e =
    let same = one_err (route_in bytes) (BadLine s.0) (BadLine n) s.1.answer e in
    let number : s.0 ≡ n = cc in
    subst (HasFirstBad (lines bytes)) number s.1.bad
bad_line-to bytes n (inr (inr (inl s))) e = let same = one_err (route_in bytes) (Few s.0) (BadLine n) s.1.answer e in absurd cc
bad_line-to bytes n (inr (inr (inr s))) e = let same = one_err (route_in bytes) (Many s.0) (BadLine n) s.1.answer e in absurd cc

pub few-to : (bytes : List ℕ) (n : ℕ) → Outcome bytes → route_in bytes ≡ Err (Few n) → HasPoints (lines bytes) n × (n < 2)
few-to bytes n (inl s) e = ok_err (route_in bytes) s.0 (Few n) s.1.answer e
few-to bytes n (inr (inl s)) e = let same = one_err (route_in bytes) (BadLine s.0) (Few n) s.1.answer e in absurd cc
few-to bytes n (inr (inr (inl s))) e =
    let same = one_err (route_in bytes) (Few s.0) (Few n) s.1.answer e in
    let number : s.0 ≡ n = cc in
    subst (λ (k : ℕ). HasPoints (lines bytes) k × (k < 2)) number (s.1.points, s.1.range)
few-to bytes n (inr (inr (inr s))) e = let same = one_err (route_in bytes) (Many s.0) (Few n) s.1.answer e in absurd cc

pub many-to : (bytes : List ℕ) (n : ℕ) → Outcome bytes → route_in bytes ≡ Err (Many n) → HasPoints (lines bytes) n × (1000 < n)
many-to bytes n (inl s) e = ok_err (route_in bytes) s.0 (Many n) s.1.answer e
many-to bytes n (inr (inl s)) e = let same = one_err (route_in bytes) (BadLine s.0) (Many n) s.1.answer e in absurd cc
many-to bytes n (inr (inr (inl s))) e = let same = one_err (route_in bytes) (Few s.0) (Many n) s.1.answer e in absurd cc
many-to bytes n (inr (inr (inr s))) e =
    let same = one_err (route_in bytes) (Many s.0) (Many n) s.1.answer e in
    let number : s.0 ≡ n = cc in
    subst (λ (k : ℕ). HasPoints (lines bytes) k × (1000 < k)) number (s.1.points, s.1.range)

pub always-answered : (bytes : List ℕ) → Outcome bytes → route_in bytes ≢ Err NoMemory
always-answered bytes (inl s) e = ok_err (route_in bytes) s.0 NoMemory s.1.answer e
always-answered bytes (inr (inl s)) e = let same = one_err (route_in bytes) (BadLine s.0) NoMemory s.1.answer e in absurd cc
always-answered bytes (inr (inr (inl s))) e = let same = one_err (route_in bytes) (Few s.0) NoMemory s.1.answer e in absurd cc
always-answered bytes (inr (inr (inr s))) e = let same = one_err (route_in bytes) (Many s.0) NoMemory s.1.answer e in absurd cc
