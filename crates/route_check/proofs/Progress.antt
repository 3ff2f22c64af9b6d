-- How far a route is read.
use Rattle.std.proofs.Common.{◌≡◌, ℕ, ◌+◌, ◌<◌, ◌≤◌, Bool, true, false, cond, List, [], ◌∷◌, ◌++◌, length, Option, None, Some, refl, sym, ap, ◌∙◌, subst, arith}
use Rattle.std.specs.Prelude.{Result, Ok, Err, filter}
use Rattle.std.specs.List.{filter_map, cons_option}
use Rattle.std.specs.Str.Lines.{lines}
use Rattle.chart_model.specs.Answers.{◌>>=◌, unless}
use Rattle.chart_model.specs.Memory.{Fails}
use Rattle.text_lines.specs.Reading.{first_fault}
use Rattle.text_lines.proofs.RestSoFar.{ArePassed, none_passed, one_passed, fault_found, all_passed}
use Rattle.route_check.specs.declared.route.Route.{Route}
use Rattle.route_check.specs.declared.draft.Draft.{Draft}
use Rattle.route_check.specs.declared.fault.RouteFault.{RouteFault}
use Rattle.route_check.specs.declared.fault.RouteFault.TheVariants.{NoMemory}
use Rattle.route_check.specs.RouteLine.{point_of}
use Rattle.route_check.specs.Reading.{saying, fault_at, points_on, route_on, route_in}
use Rattle.route_check.specs.Draft.{draft_of, KeepsFirstPoints, line_in, finished_route}
use Rattle.route_check.specs.Answers.{Answers}
use Rattle.route_check.proofs.Drafts.{HasBox, kept, line_taken, line_refused, finished-draft_of}

-- the lines before the rest have no fault, and say what the draft has
pub record IsReadSoFar (bytes : List ℕ) (draft : Draft) (number : ℕ) (rest : List ℕ) : Type 0 where
  pub before : List (List ℕ)
  pub passed : ArePassed fault_at bytes number rest before
  pub room : number + length rest ≤ length bytes
  pub drafted : draft ≡ draft_of (saying before)
  pub boxed : HasBox (saying before)

pub read_none : (bytes : List ℕ) (draft : Draft) → draft ≡ draft_of [] → IsReadSoFar bytes draft 0 bytes
read_none bytes draft e = record {
  before = [];
  passed = none_passed fault_at bytes;
  room = omega arith;
  drafted = e;
  boxed = tt;
}

pub is_kept : (bytes rest : List ℕ) (draft : Draft) (number : ℕ) → IsReadSoFar bytes draft number rest → KeepsFirstPoints draft
is_kept bytes rest draft number so_far = subst KeepsFirstPoints (sym so_far.drafted) (kept (saying so_far.before))

-- ---- no more points than lines

length-cons_option : {X : Type 0} (o : Option X) (xs : List X) → length (cons_option o xs) ≤ length xs + 1
length-cons_option None xs = omega arith
length-cons_option (Some x) xs = omega arith

length-filter_map-le : {X Y : Type 0} (h : X → Option Y) (xs : List X) → length (filter_map h xs) ≤ length xs
length-filter_map-le h [] = omega arith
length-filter_map-le h (x ∷ xs) = omega (arith, length-cons_option (h x) (filter_map h xs), length-filter_map-le h xs)

length-cond : {X : Type 0} (b : Bool) (x : X) (xs : List X) → length (cond b (x ∷ xs) xs) ≤ length xs + 1
length-cond true x xs = omega arith
length-cond false x xs = omega arith

length-filter-le : {X : Type 0} (p : X → Bool) (xs : List X) → length (filter p xs) ≤ length xs
length-filter-le p [] = omega arith
length-filter-le p (x ∷ xs) = omega (arith, length-cond (p x) x (filter p xs), length-filter-le p xs)

length-points_on : (said : List (List ℕ)) → length (points_on said) ≤ length said
length-points_on [] = omega arith
length-points_on (first ∷ more) = omega (arith, length-filter_map-le point_of more)

pub is_counted : (bytes rest : List ℕ) (draft : Draft) (number : ℕ) → IsReadSoFar bytes draft number rest → draft.count < number + 1
is_counted bytes rest draft number so_far =
    let count : draft.count ≡ length (points_on (saying so_far.before)) = ap (λ (d : Draft). d.count) so_far.drafted in
    let said : length (saying so_far.before) ≤ length so_far.before = length-filter-le _ so_far.before in
    omega (arith, count, said, length-points_on (saying so_far.before), so_far.passed.counted)

-- ---- one more line

-- a line that was taken, as the draft has it
on_draft : (bytes rest line : List ℕ) (draft : Draft) (number : ℕ) (so_far : IsReadSoFar bytes draft number rest)
    → line_in (draft_of (saying so_far.before)) (length so_far.before + 1) line ≡ line_in draft (number + 1) line
on_draft bytes rest line draft number so_far = λ i. line_in (sym so_far.drafted i) (sym so_far.passed.counted i + 1) line

pub read_more : (bytes rest others line : List ℕ) (draft next : Draft) (number : ℕ) → IsReadSoFar bytes draft number rest
    → lines rest ≡ line ∷ lines others → length others < length rest → line_in draft (number + 1) line ≡ Ok next → IsReadSoFar bytes next (number + 1) others
read_more bytes rest others line draft next number so_far cut shorter e =
    let taken = line_taken so_far.before line next so_far.boxed (on_draft bytes rest line draft number so_far ∙ e) in
    record {
      before = so_far.before ++ line ∷ [];
      passed = one_passed fault_at bytes rest others line number so_far.before so_far.passed cut taken.faultless;
      room = omega (arith, so_far.room, shorter);
      drafted = taken.drafted;
      boxed = taken.boxed;
    }

-- ---- the whole file

in_parts : (bytes : List ℕ) (o : Option RouteFault) (all : List (List ℕ)) → first_fault fault_at [] (lines bytes) ≡ o → lines bytes ≡ all
    → route_in bytes ≡ (unless o (saying all) >>= route_on)
in_parts bytes o all is whole = λ i. unless (is i) (saying (whole i)) >>= route_on

fails : (bytes rest others line : List ℕ) (draft : Draft) (number : ℕ) (f : RouteFault) → IsReadSoFar bytes draft number rest
    → lines rest ≡ line ∷ lines others → line_in draft (number + 1) line ≡ Err f → route_in bytes ≡ Err f
fails bytes rest others line draft number f so_far cut e =
    let refused = line_refused so_far.before line f so_far.boxed (on_draft bytes rest line draft number so_far ∙ e) in
    in_parts bytes (Some f) (lines bytes)
    (fault_found fault_at bytes rest others line number so_far.before f so_far.passed cut refused) refl

-- a line's fault is that of the file
pub read_fault : (bytes rest others line : List ℕ) (draft : Draft) (number : ℕ) (f : RouteFault) → IsReadSoFar bytes draft number rest
    → lines rest ≡ line ∷ lines others → Fails NoMemory f (line_in draft (number + 1) line) → Fails NoMemory f (route_in bytes)
read_fault bytes rest others line draft number f so_far cut h =
    λ differs. fails bytes rest others line draft number f so_far cut (h differs)

read_all : (bytes rest : List ℕ) (draft : Draft) (number : ℕ) → IsReadSoFar bytes draft number rest → lines rest ≡ [] → finished_route draft ≡ route_in bytes
read_all bytes rest draft number so_far end =
    let all = all_passed fault_at bytes rest number so_far.before so_far.passed end in
    ap finished_route so_far.drafted ∙ finished-draft_of (saying so_far.before)
    ∙ sym (in_parts bytes None so_far.before all.1 all.0)

-- an answer without want of memory
answers : (answer : Result Route RouteFault) → Answers answer answer
answers (Ok route) = refl
answers (Err fault) = λ differs. refl

pub read_whole : (bytes rest : List ℕ) (draft : Draft) (number : ℕ) (answer : Result Route RouteFault) → IsReadSoFar bytes draft number rest → lines rest ≡ []
    → answer ≡ finished_route draft → Answers answer (route_in bytes)
read_whole bytes rest draft number answer so_far end is =
    subst (Answers answer) (is ∙ read_all bytes rest draft number so_far end) (answers answer)

-- a fault that is passed on
pub failed : (answer : Result Route RouteFault) (f g : RouteFault) (wanted : Result Route RouteFault)
    → answer ≡ Err g → g ≡ f → Fails NoMemory f wanted → Answers answer wanted
failed answer f g wanted e same h =
    subst (λ (r : Result Route RouteFault). Answers r wanted) (sym e) (subst (λ (x : RouteFault). Fails NoMemory x wanted) (sym same) h)
