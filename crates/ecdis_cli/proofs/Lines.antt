-- Lines of a script, and their steps.
use Rattle.std.proofs.Common.{◌≡◌, ℕ, ◌+◌, ◌-◌, ◌<◌, ◌≤◌, ◌⊎◌, Bool, true, false, cond, List, [], ◌∷◌, ◌++◌, length, take, drop, get_or, eqb, leb, refl, sym, ◌∙◌, ap, subst, arith, inl, inr, append_assoc, length-append, length-take-le}
use Rattle.std.specs.Prelude.{Option, Result}
use Rattle.std.specs.List.{slice_split}
use Rattle.std.specs.Str.Lines.{lines, lines_of_parts, strip_carriage_return}
use Rattle.std.proofs.lemmas.Bool.Decides.{nat_tests}
use Rattle.std.proofs.lemmas.List.{take-append-drop, take-append-le, take-take, take_all}
use Rattle.std.proofs.lemmas.List.Elements.{All-nil, All-cons, All-head, All-tail, All-append}
use Rattle.std.proofs.lemmas.List.Splits.{slice_split_at, slice_split_none, length-slice_split}
use Rattle.script_reader.specs.Reading.{event_in}
use Rattle.script_reader.specs.declared.event.Event.{Event}
use Rattle.script_reader.specs.declared.fault.LineFault.{LineFault}
use Rattle.session_core.specs.Model.{Model}
use Rattle.session_core.specs.Outside.{FromOutside}
use Rattle.ecdis_cli.specs.WholeLines.{whole_lines, onto_whole_lines}
use Rattle.ecdis_cli.specs.Progress.{HasNoLineFeed}
use Rattle.ecdis_cli.specs.Script.{first_answer, other_answers, steps_from}
use Rattle.ecdis_cli.specs.Step.{Step, step_by, step_to}

-- ---- lines

pub parts-cons : (line : List ℕ) (parts : List (List ℕ)) → 0 < length parts → lines_of_parts (line ∷ parts) ≡ strip_carriage_return line ∷ lines_of_parts parts
parts-cons line [] h = absurd (omega arith)
parts-cons line (part ∷ more) h = refl

-- the first line ends at the first line feed
pub lines-feed : (line rest : List ℕ) → HasNoLineFeed line → lines (line ++ 10 ∷ rest) ≡ strip_carriage_return line ∷ lines rest
lines-feed line rest h =
    let some : 0 < length (slice_split (λ b. eqb b 10) rest) = omega (arith, length-slice_split (λ b. eqb b 10) rest) in
    ap lines_of_parts (slice_split_at (λ b. eqb b 10) line 10 rest h refl) ∙ parts-cons line (slice_split (λ b. eqb b 10) rest) some

-- bytes without a line feed are one line, or none
pub lines-last : (line : List ℕ) → HasNoLineFeed line → lines line ≡ cond (eqb (length line) 0) [] (line ∷ [])
lines-last line h = ap lines_of_parts (slice_split_none (λ b. eqb b 10) line h)

pub record Fed (bytes : List ℕ) : Type 0 where
  pub line : List ℕ
  pub rest : List ℕ
  pub unbroken : HasNoLineFeed line
  pub whole : bytes ≡ line ++ 10 ∷ rest

pub is_ten : (byte : ℕ) → eqb byte 10 ≡ true → byte ≡ 10
is_ten byte h = grind (arith, nat_tests)

-- there is no line feed, or a first one
pub cut_at_feed : (bytes : List ℕ) → HasNoLineFeed bytes ⊎ Fed bytes
cut_at_feed [] = inl (All-nil (λ byte. eqb byte 10 ≡ false))
cut_at_feed (byte ∷ bytes) =
    elim (eqb byte 10) as (λ v. eqb byte 10 ≡ v → HasNoLineFeed (byte ∷ bytes) ⊎ Fed (byte ∷ bytes)) [
      | true ↦ λ e. inr (record { line = []; rest = bytes; unbroken = All-nil (λ b. eqb b 10 ≡ false); whole = ap (λ (b : ℕ). b ∷ bytes) (is_ten byte e) })
      | false ↦ λ e. elim (cut_at_feed bytes) as (λ _. HasNoLineFeed (byte ∷ bytes) ⊎ Fed (byte ∷ bytes)) [
        | inl h ↦ inl (All-cons (λ b. eqb b 10 ≡ false) byte bytes e h)
        | inr f ↦ inr (record { line = byte ∷ f.line; rest = f.rest; unbroken = All-cons (λ b. eqb b 10 ≡ false) byte f.line e f.unbroken; whole = ap (λ (l : List ℕ). byte ∷ l) f.whole })
      ]
    ] refl

pub one_more : (line : List ℕ) (byte : ℕ) → HasNoLineFeed line → eqb byte 10 ≡ false → HasNoLineFeed (line ++ byte ∷ [])
one_more line byte h ne = All-append (λ b. eqb b 10 ≡ false) line (byte ∷ []) h (All-cons (λ b. eqb b 10 ≡ false) byte [] ne (All-nil (λ b. eqb b 10 ≡ false)))

pub All-front : (xs ys : List ℕ) → HasNoLineFeed (xs ++ ys) → HasNoLineFeed xs
All-front [] ys h = All-nil (λ b. eqb b 10 ≡ false)
All-front (x ∷ xs) ys h = All-cons (λ b. eqb b 10 ≡ false) x xs (All-head (λ b. eqb b 10 ≡ false) x (xs ++ ys) h) (All-front xs ys (All-tail (λ b. eqb b 10 ≡ false) x (xs ++ ys) h))

pub All-behind : (xs ys : List ℕ) → HasNoLineFeed (xs ++ ys) → HasNoLineFeed ys
All-behind [] ys h = h
All-behind (x ∷ xs) ys h = All-behind xs ys (All-tail (λ b. eqb b 10 ≡ false) x (xs ++ ys) h)

-- ---- their steps

abbrev pub step_first : Model → ℕ → List ℕ → List FromOutside → Step
step_first model number line answers = step_to (first_answer answers) model number line

-- the steps of the lines behind a first step
abbrev pub steps_behind : Step → ℕ → List ℕ → List FromOutside → List Step
steps_behind step number rest answers = step ∷ steps_from step.model (number + 1) (lines rest) (other_answers answers)

pub steps-feed : (model : Model) (number : ℕ) (line rest : List ℕ) (answers : List FromOutside) → HasNoLineFeed line
    → steps_from model number (lines (line ++ 10 ∷ rest)) answers
    ≡ steps_behind (step_first model number (strip_carriage_return line) answers) number rest answers
steps-feed model number line rest answers h =
    ap (λ (ls : List (List ℕ)). steps_from model number ls answers) (lines-feed line rest h)

-- the last line has no line feed
pub steps-last : (model : Model) (number : ℕ) (line : List ℕ) (answers : List FromOutside) → HasNoLineFeed line → 0 < length line
    → steps_from model number (lines line) answers ≡ step_first model number line answers ∷ []
steps-last model number line answers h some =
    let nonempty : eqb (length line) 0 ≡ false = grind (arith, nat_tests) in
    ap (λ (ls : List (List ℕ)). steps_from model number ls answers)
    (lines-last line h ∙ ap (λ (b : Bool). cond b [] (line ∷ [])) nonempty)

pub steps-empty : (model : Model) (number : ℕ) (answers : List FromOutside) → steps_from model number (lines []) answers ≡ []
steps-empty model number answers = refl

-- ---- long lines

-- a longer line is read by its front
abbrev pub ReadByFront : Type 0
ReadByFront = (number : ℕ) (front rest : List ℕ) → 1024 < length front → event_in number (front ++ rest) ≡ event_in number front

pub event-front : ReadByFront → (number : ℕ) (line : List ℕ) → 1024 < length line → event_in number (take 1025 line) ≡ event_in number line
event-front law number line h =
    let long : 1024 < length (take 1025 line) = omega (arith, h, length-take-le 1025 line (omega (arith, h))) in
    sym (law number (take 1025 line) (drop 1025 line) long) ∙ ap (event_in number) (take-append-drop 1025 line)

pub step-front : ReadByFront → (outside : FromOutside) (model : Model) (number : ℕ) (line : List ℕ) → 1024 < length line
    → step_to outside model number line ≡ step_to outside model number (take 1025 line)
unfolding step_to
step-front law outside model number line h =
    ap (step_by outside model number) (sym (event-front law number line h))

-- bytes that are looked at whole
pub take_short : (n : ℕ) (bytes : List ℕ) → length bytes ≤ n → bytes ≡ take n bytes
take_short n bytes h = sym (take_all n bytes h)

pub length-strip : (line : List ℕ) → length line ≤ length (strip_carriage_return line) + 1
length-strip line =
    elim (eqb (get_or line (length line - 1) 0) 13) as (λ v. length line ≤ length (cond v (take (length line - 1) line) line) + 1) [
      | true ↦ omega (arith, length-take-le (length line - 1) line (omega arith))
      | false ↦ omega arith
    ]

pub take-strip : (line : List ℕ) → 1026 ≤ length line → take 1025 (strip_carriage_return line) ≡ take 1025 line
take-strip line h =
    elim (eqb (get_or line (length line - 1) 0) 13) as (λ v. take 1025 (cond v (take (length line - 1) line) line) ≡ take 1025 line) [
      | true ↦ take-take 1025 (length line - 1) line (omega arith)
      | false ↦ refl
    ]

-- a line that has begun with so many bytes, however it goes on
step-begun : ReadByFront → (outside : FromOutside) (model : Model) (number : ℕ) (line more : List ℕ) → 1026 ≤ length line
    → step_to outside model number (line ++ more) ≡ step_to outside model number (take 1025 line)
step-begun law outside model number line more h =
    step-front law outside model number (line ++ more) (omega (arith, h, length-append line more))
    ∙ ap (step_to outside model number) (take-append-le 1025 line more (omega (arith, h)))

step-begun_strip : ReadByFront → (outside : FromOutside) (model : Model) (number : ℕ) (line more : List ℕ) → 1026 ≤ length line
    → step_to outside model number (strip_carriage_return (line ++ more)) ≡ step_to outside model number (take 1025 line)
step-begun_strip law outside model number line more h =
    step-front law outside model number (strip_carriage_return (line ++ more))
    (omega (arith, h, length-append line more, length-strip (line ++ more)))
    ∙ ap (step_to outside model number) (take-strip (line ++ more) (omega (arith, h, length-append line more))
    ∙ take-append-le 1025 line more (omega (arith, h)))

-- a long line, however it goes on, and the lines behind it
steps-begun : ReadByFront → (model : Model) (number : ℕ) (line more rest : List ℕ) (answers : List FromOutside) → 1026 ≤ length line
    → HasNoLineFeed line → HasNoLineFeed more
    → steps_from model number (lines (line ++ (more ++ 10 ∷ rest))) answers
    ≡ steps_behind (step_first model number (take 1025 line) answers) number rest answers
steps-begun law model number line more rest answers long h u =
    ap (λ (l : List ℕ). steps_from model number (lines l) answers) (sym (append_assoc line more (10 ∷ rest)))
    ∙ steps-feed model number (line ++ more) rest answers (All-append (λ b. eqb b 10 ≡ false) line more h u)
    ∙ ap (λ (s : Step). steps_behind s number rest answers) (step-begun_strip law (first_answer answers) model number line more long)

steps-begun_last : ReadByFront → (model : Model) (number : ℕ) (line more : List ℕ) (answers : List FromOutside) → 1026 ≤ length line
    → HasNoLineFeed line → HasNoLineFeed more
    → steps_from model number (lines (line ++ more)) answers ≡ step_first model number (take 1025 line) answers ∷ []
steps-begun_last law model number line more answers long h u =
    steps-last model number (line ++ more) answers (All-append (λ b. eqb b 10 ≡ false) line more h u)
    (omega (arith, long, length-append line more))
    ∙ ap (λ (s : Step). s ∷ []) (step-begun law (first_answer answers) model number line more long)

-- the rest of a long line changes nothing
pub steps-long : ReadByFront → (model : Model) (number : ℕ) (line : List ℕ) (byte : ℕ) (rest : List ℕ) (answers : List FromOutside)
    → 1026 ≤ length line → HasNoLineFeed line → eqb byte 10 ≡ false
    → steps_from model number (lines (line ++ byte ∷ rest)) answers ≡ steps_from model number (lines (line ++ rest)) answers
steps-long law model number line byte rest answers long h ne =
    elim (cut_at_feed rest) as (λ _. steps_from model number (lines (line ++ byte ∷ rest)) answers ≡ steps_from model number (lines (line ++ rest)) answers) [
      | inl u ↦
          steps-begun_last law model number line (byte ∷ rest) answers long h (All-cons (λ b. eqb b 10 ≡ false) byte rest ne u)
          ∙ sym (steps-begun_last law model number line rest answers long h u)
      | inr f ↦
          ap (λ (l : List ℕ). steps_from model number (lines (line ++ byte ∷ l)) answers) f.whole
          ∙ steps-begun law model number line (byte ∷ f.line) f.rest answers long h (All-cons (λ b. eqb b 10 ≡ false) byte f.line ne f.unbroken)
          ∙ sym (ap (λ (l : List ℕ). steps_from model number (lines (line ++ l)) answers) f.whole
          ∙ steps-begun law model number line f.line f.rest answers long h f.unbroken)
    ]

-- ---- lines that have ended

pub ended-unbroken : (bytes : List ℕ) → HasNoLineFeed bytes → whole_lines bytes ≡ []
ended-unbroken [] h = refl
ended-unbroken (byte ∷ bytes) h =
    ap (onto_whole_lines byte) (ended-unbroken bytes (All-tail (λ b. eqb b 10 ≡ false) byte bytes h))
    ∙ ap (λ (v : Bool). cond v (byte ∷ []) []) (All-head (λ b. eqb b 10 ≡ false) byte bytes h)

-- bytes without a line feed end no line
pub ended-append_unbroken : (bytes more : List ℕ) → HasNoLineFeed more → whole_lines (bytes ++ more) ≡ whole_lines bytes
ended-append_unbroken [] more h = ended-unbroken more h
ended-append_unbroken (byte ∷ bytes) more h = ap (onto_whole_lines byte) (ended-append_unbroken bytes more h)

pub record IsCons (bytes : List ℕ) : Type 0 where
  pub first : ℕ
  pub others : List ℕ
  pub whole : bytes ≡ first ∷ others

onto_ended-cons : (byte : ℕ) (bytes : List ℕ) → IsCons bytes → onto_whole_lines byte bytes ≡ byte ∷ bytes
onto_ended-cons byte [] x = absurd (let e : [] ≡ x.first ∷ x.others = x.whole in cc)
onto_ended-cons byte (next ∷ more) x = refl

cons-front : (bytes more : List ℕ) → IsCons more → IsCons (bytes ++ more)
cons-front [] more x = x
cons-front (byte ∷ bytes) more x = record { first = byte; others = bytes ++ more; whole = refl }

-- where a line ends later, all that comes before has ended
pub ended-append : (bytes more : List ℕ) → IsCons (whole_lines more) → whole_lines (bytes ++ more) ≡ bytes ++ whole_lines more
ended-append [] more x = refl
ended-append (byte ∷ bytes) more x = ap (onto_whole_lines byte) (ended-append bytes more x) ∙ onto_ended-cons byte (bytes ++ whole_lines more) (cons-front bytes (whole_lines more) x)

onto_ten : (bytes : List ℕ) → IsCons (onto_whole_lines 10 bytes)
onto_ten [] = record { first = 10; others = []; whole = refl }
onto_ten (next ∷ more) = record { first = 10; others = next ∷ more; whole = refl }

ended-feed : (line rest : List ℕ) → IsCons (whole_lines (line ++ 10 ∷ rest))
ended-feed line rest =
    subst IsCons (sym (ended-append line (10 ∷ rest) (onto_ten (whole_lines rest)))) (cons-front line (whole_lines (10 ∷ rest)) (onto_ten (whole_lines rest)))

pub ended-fed : (bytes : List ℕ) → Fed bytes → IsCons (whole_lines bytes)
ended-fed bytes f = subst (λ (l : List ℕ). IsCons (whole_lines l)) (sym f.whole) (ended-feed f.line f.rest)

-- a line feed at the end ends all
pub ended-line : (line : List ℕ) → whole_lines (line ++ 10 ∷ []) ≡ line ++ 10 ∷ []
ended-line line = ended-append line (10 ∷ []) (onto_ten [])

pub steps-ended_none : (model : Model) (number : ℕ) (bytes : List ℕ) (answers : List FromOutside) → HasNoLineFeed bytes
    → steps_from model number (lines (whole_lines bytes)) answers ≡ []
steps-ended_none model number bytes answers h =
    ap (λ (l : List ℕ). steps_from model number (lines l) answers) (ended-unbroken bytes h)

-- ---- what a line asks for

-- any line is read by its front
pub event-looked_at : ReadByFront → (number : ℕ) (line front : List ℕ) → front ≡ take 1025 line → event_in number front ≡ event_in number line
event-looked_at law number line front e =
    ap (event_in number) e ∙ elim (leb (length line) 1025) as (λ v. leb (length line) 1025 ≡ v → event_in number (take 1025 line) ≡ event_in number line) [
      | true ↦ λ t. let short : length line ≤ 1025 = grind (arith, nat_tests) in ap (event_in number) (take_all 1025 line short)
      | false ↦ λ t. let long : 1024 < length line = grind (arith, nat_tests) in event-front law number line long
    ] refl

-- so its step is that of what it asks for
pub step-asked : ReadByFront → (outside : FromOutside) (model : Model) (number : ℕ) (line front : List ℕ) (asked : Result (Option Event) LineFault)
    → front ≡ take 1025 line → asked ≡ event_in number front → step_to outside model number line ≡ step_by outside model number asked
unfolding step_to
step-asked law outside model number line front asked e is =
    ap (step_by outside model number) (sym (is ∙ event-looked_at law number line front e))
