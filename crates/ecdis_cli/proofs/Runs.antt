-- The run of a whole script.
use Rattle.std.proofs.Common.{◌≡◌, ◌≢◌, ℕ, ◌+◌, ◌≤◌, ◌⊎◌, Bool, true, false, List, [], ◌++◌, length, take, drop, eqb, leb, refl, sym, ◌∙◌, ap, subst, arith, inl, inr, append_assoc, length-append, length-take-le}
use Rattle.std.proofs.Math.ListN.{replicate}
use Rattle.std.specs.Prelude.{Ok, min, IsTrue}
use Rattle.std.specs.List.{All}
use Rattle.std.specs.Str.Lines.{lines}
use Rattle.std.proofs.lemmas.Bool.Decides.{nat_tests}
use Rattle.std.proofs.lemmas.List.{append-nil, length-replicate, take-append-drop, take-take}
use Rattle.std.proofs.lemmas.List.Elements.{All-append, All-nil, All-replicate}
use Rattle.std.proofs.Math.Seq.{take-append_seam}
use Rattle.chart_ports.specs.Count.{LAST, RoseBy}
use Rattle.chart_ports.specs.Moments.{LeavesOnly}
use Rattle.chart_ports.specs.Said.{SaysFront}
use Rattle.chart_ports.specs.declared.images.Images.{Images}
use Rattle.chart_ports.proofs.Moments.{weaker}
use Rattle.chart_store.specs.Images.{StandFor, read_of}
use Rattle.chart_store.specs.Outcome.{after}
use Rattle.panel_scenes.specs.InStep.{Start}
use Rattle.session_core.specs.Fetch.{Files}
use Rattle.session_core.specs.Model.{Model}
use Rattle.session_core.specs.Outside.{FromOutside}
use Rattle.ecdis_cli.specs.declared.run.stop.Stop.{Stop}
use Rattle.ecdis_cli.specs.declared.run.stop.Stop.TheVariants.{DeskFault, NoMemory}
use Rattle.ecdis_cli.specs.declared.run.status.Status.TheVariants as stops
use Rattle.ecdis_cli.specs.declared.run.status.Status.{Status}
use Rattle.ecdis_cli.specs.declared.run.status.Status.TheVariants.{Done}
use Rattle.ecdis_cli.specs.Crash.{LeavesPrefix}
use Rattle.ecdis_cli.specs.WholeLines.{whole_lines}
use Rattle.ecdis_cli.specs.Limits.{SCRIPT_LIMIT}
use Rattle.ecdis_cli.specs.Panels.{AreAsKnown, PanelValue, starts_at, starts_left}
use Rattle.ecdis_cli.specs.Progress.{BytesAreTaken, ComeFirst, HasNoLineFeed, IsAfter, PanelsAreLeft, RunIsStopped, SaysUpToLast}
use Rattle.ecdis_cli.specs.Progress.{ScriptIsFinished, ScriptIsUnfinished, StepsAreTaken}
use Rattle.ecdis_cli.specs.Run.{Outside, PanelsGoAlong, Ran, Says, outside_of, reading_of}
use Rattle.ecdis_cli.specs.Script.{IsAnswer, commands_in, failures_in, model_after, output_of, steps_from, steps_of}
use Rattle.ecdis_cli.specs.Step.{Step}
use Rattle.ecdis_cli.specs.Stop.{status_of}
use Rattle.ecdis_cli.specs.Standing.{Standing, at_start}
use Rattle.ecdis_cli.proofs.Crashes.{prefix-extended}
use Rattle.ecdis_cli.proofs.Failures.{Serves, TellsFailure, served-none}
use Rattle.ecdis_cli.proofs.Lists.{failures-append, output-append}
use Rattle.ecdis_cli.proofs.ScriptSteps.{Advanced-then, Stopped-then}
use Rattle.ecdis_cli.proofs.Panels.{known-counted}
use Rattle.ecdis_cli.proofs.Taking.{IsAfter-then, Taken-then, Where, front-append, front-none, front-same, front-whole, left-then, unfailing}
use Rattle.ecdis_cli.proofs.Taking.{upto-after, upto-front, upto-whole}

-- ---- statuses

-- the statuses of a run that neither was done nor ended with its script
pub record IsOther (status : Status) : Type 0 where
  pub not_done : status ≢ Done
  pub not_fault : status ≢ stops.ScriptFault
  pub not_long : status ≢ stops.ScriptLong

pub status_of-other : (stop : Stop) (status : Status) → status ≡ status_of stop → IsOther status
status_of-other DeskFault status e = record {
  not_done = λ d. let x : stops.DeskFault ≡ Done = sym e ∙ d in cc;
  not_fault = λ d. let x : stops.DeskFault ≡ stops.ScriptFault = sym e ∙ d in cc;
  not_long = λ d. let x : stops.DeskFault ≡ stops.ScriptLong = sym e ∙ d in cc;
}
status_of-other NoMemory status e = record {
  not_done = λ d. let x : stops.NoMemory ≡ Done = sym e ∙ d in cc;
  not_fault = λ d. let x : stops.NoMemory ≡ stops.ScriptFault = sym e ∙ d in cc;
  not_long = λ d. let x : stops.NoMemory ≡ stops.ScriptLong = sym e ∙ d in cc;
}

-- ---- the whole script

-- what lines get from outside that were not come to
abbrev pub padding : Files → List ℕ → List FromOutside
padding files script = replicate (length (lines script)) (unfailing files)

padding-serves : (files : Files) (script : List ℕ) → All Serves (padding files script)
padding-serves files script = All-replicate Serves (length (lines script)) (unfailing files) (λ limit name e. cc)

pub padding-told : (tells : Bool) (files : Files) (script : List ℕ) → All (IsAnswer tells files) (padding files script)
padding-told tells files script = All-replicate (IsAnswer tells files) (length (lines script)) (unfailing files) (λ t. (false, refl))

pub steps_of-start : (model : Model) (script : List ℕ) (answers : List FromOutside) → steps_of model script answers ≡ steps_from model 1 (lines script) answers
unfolding steps_of
steps_of-start model script answers = refl

-- where a run begins
abbrev pub begun_at : Model → Outside → Standing
begun_at model before = at_start model before.said before.faults before.count before.panels

begun-unbroken : HasNoLineFeed []
begun-unbroken = All-nil (λ byte. eqb byte 10 ≡ false)

-- the steps that were taken are the first of the script's, and those behind them say of no failure
pub record Covers (files : Files) (model : Model) (script : List ℕ) (answers : List FromOutside) (steps : List Step) : Type 0 where
  pub later : List Step
  pub whole : steps_of model script (answers ++ padding files script) ≡ steps ++ later
  pub mild : failures_in later ≡ 0

covers-first : TellsFailure → (files : Files) (model : Model) (script : List ℕ) (answers : List FromOutside) (steps : List Step)
    → ComeFirst steps (padding files script) (steps_from model 1 (lines script) (answers ++ padding files script))
    → Covers files model script answers steps
covers-first law files model script answers steps x = record {
  later = steps_from x.model x.number x.left (padding files script);
  whole = steps_of-start model script (answers ++ padding files script) ∙ x.behind;
  mild = served-none law x.model x.number x.left (padding files script) (padding-serves files script);
}

covers-all : (files : Files) (model : Model) (script : List ℕ) (answers : List FromOutside) (steps : List Step)
    → steps_from model 1 (lines script) (answers ++ padding files script) ≡ steps → Covers files model script answers steps
covers-all files model script answers steps e = record {
  later = [];
  whole = steps_of-start model script (answers ++ padding files script) ∙ e ∙ sym (append-nil steps);
  mild = refl;
}

-- no step was taken
pub covers-none : TellsFailure → (files : Files) (model : Model) (script : List ℕ) → Covers files model script [] []
covers-none law files model script = covers-first law files model script [] [] (record { model = model; number = 1; left = lines script; behind = refl })

covers-front : (files : Files) (model : Model) (script : List ℕ) (answers : List FromOutside) (steps : List Step) (said now : List ℕ)
    → (x : Covers files model script answers steps) → SaysFront said (output_of steps) now
    → SaysFront said (output_of (steps_of model script (answers ++ padding files script))) now
covers-front files model script answers steps said now x front =
    front-same said (output_of steps ++ output_of x.later) (output_of (steps_of model script (answers ++ padding files script))) now
    (sym (ap output_of x.whole ∙ output-append steps x.later)) (front-append said (output_of steps) (output_of x.later) now front)

-- ---- what a run says

-- a run that neither was done nor ended with its script
pub other-says : (files : Files) (model : Model) (status : Status) (before : Outside) (left said : List ℕ)
    (faults count : ℕ) (panels : List PanelValue) (answers : List FromOutside) (steps : List Step)
    → IsOther status → Covers files model before.left answers steps → SaysFront before.said (output_of steps) said
    → Says status (λ script. steps_of model script (answers ++ padding files before.left)) before
    (outside_of left said faults count panels)
other-says files model status before left said faults count panels answers steps other x front = record {
  all = λ e. absurd (other.not_done e);
  front = covers-front files model before.left answers steps before.said said x front;
  at_fault = λ e. absurd (other.not_fault e);
  at_limit = λ e. absurd (other.not_long e);
}

-- ---- panels

-- where all steps that were taken were answered
along-after : (status : Status) (model : Model) (before : Outside) (now : Standing) (left : List ℕ)
    (whole steps later : List Step) → AreAsKnown (starts_at before.panels) before.panels model.scenes
    → whole ≡ steps ++ later → IsAfter (begun_at model before) steps now → (status ≡ Done → later ≡ [])
    → PanelsGoAlong status (starts_at before.panels) model whole before
    (outside_of left now.said now.faults now.count now.panels)
along-after status model before now left whole steps later start split x all =
    let starts : List Start = starts_at before.panels in
    record {
      answered = steps;
      others = later;
      split = split;
      begun = front-whole before.said (output_of steps) now.said x.said;
      all = all;
      told = x.panels.told starts start;
      counted = known-counted (starts_left starts steps) now.panels (model_after model steps).scenes
          (x.panels.known starts start);
      known = λ not_desk not_memory. x.panels.known starts start;
    }

stop-other : (stop : Stop) (status : Status) → status ≡ status_of stop → status ≢ stops.DeskFault
    → status ≢ stops.NoMemory → ⊥
stop-other DeskFault status is not_desk not_memory = not_desk is
stop-other NoMemory status is not_desk not_memory = not_memory is

-- where the run stopped at a line
along-left : (status : Status) (stop : Stop) (model : Model) (before : Outside) (now : Standing) (left : List ℕ)
    (whole steps later : List Step) → status ≡ status_of stop
    → AreAsKnown (starts_at before.panels) before.panels model.scenes → whole ≡ steps ++ later
    → PanelsAreLeft (begun_at model before) steps now
    → PanelsGoAlong status (starts_at before.panels) model whole before
    (outside_of left now.said now.faults now.count now.panels)
along-left status stop model before now left whole steps later is start split x =
    let starts : List Start = starts_at before.panels in
    record {
      answered = x.answered;
      others = x.others ++ later;
      split = split ∙ ap (λ (l : List Step). l ++ later) x.whole ∙ append_assoc x.answered x.others later;
      begun = x.begun;
      all = λ done. absurd ((status_of-other stop status is).not_done done);
      told = x.told starts start;
      counted = x.counted starts start;
      known = λ not_desk not_memory. absurd (stop-other stop status is not_desk not_memory);
    }

-- where no line was come to
pub along-none : (status : Status) (model : Model) (before now : Outside) (whole : List Step)
    → AreAsKnown (starts_at before.panels) before.panels model.scenes → now.said ≡ before.said
    → now.panels ≡ before.panels → status ≢ Done
    → PanelsGoAlong status (starts_at before.panels) model whole before now
along-none status model before now whole start silent same not_done =
    let starts : List Start = starts_at before.panels in
    let left : AreAsKnown starts now.panels model.scenes
    = subst (λ (panels : List PanelValue). AreAsKnown starts panels model.scenes) (sym same) start in
    record {
      answered = [];
      others = whole;
      split = refl;
      begun = front-none before.said [] now.said silent;
      all = λ done. absurd (not_done done);
      told = tt;
      counted = known-counted starts now.panels model.scenes left;
      known = λ not_desk not_memory. left;
    }

module _ {D : Type 0} (clock : D → ℕ) (might : D → ℕ → Images → List ℕ → Type 0) (Stood : Type 0)
    (tells : Bool) (files : Files) (model : Model) (before : Outside) where
  -- A run under way: these bytes were taken
  pub record Underway (d0 d1 : D) (left : List ℕ) (at : Standing) : Type 0 where
    pub taken : List ℕ
    pub split : before.left ≡ taken ++ left
    pub advanced : BytesAreTaken tells files (Where Stood (LeavesOnly clock might d0 d1)) (begun_at model before) taken at

  pub Underway-start : (d0 d1 : D) (at : Standing) → at ≡ begun_at model before
      → BytesAreTaken tells files (Where Stood (LeavesOnly clock might d0 d1)) (begun_at model before) [] (begun_at model before)
      → Underway d0 d1 before.left at
  Underway-start d0 d1 at is x = record {
    taken = [];
    split = refl;
    advanced = subst (λ (p : Standing). BytesAreTaken tells files (Where Stood (LeavesOnly clock might d0 d1)) (begun_at model before) [] p) (sym is) x;
  }

  pub Underway-next : (Then : Type 0) → (Stood → Then) → (files' : Files) (d0 d1 d2 : D) (p q : Standing) (left0 left1 bytes : List ℕ)
      → (IsTrue tells → files' ≡ files) → left0 ≡ bytes ++ left1 → Underway d0 d1 left0 p
      → BytesAreTaken tells files' (Where Then (LeavesOnly clock might d1 d2)) p bytes q → Underway d0 d2 left1 q
  Underway-next Then on files' d0 d1 d2 p q left0 left1 bytes same e x y = record {
    taken = x.taken ++ bytes;
    split = x.split ∙ ap (λ (l : List ℕ). x.taken ++ l) e ∙ sym (append_assoc x.taken bytes left1);
    advanced = Advanced-then clock might Stood Then on tells files files' d0 d1 d2 (begun_at model before) p q x.taken bytes same x.advanced y;
  }

module _ {D : Type 0} (clock : D → ℕ) (might : D → ℕ → Images → List ℕ → Type 0) (Stood : Type 0) (law : TellsFailure)
    (tells : Bool) (files : Files) (model : Model) (before : Outside) (MayBeLeft : Images → Type 0)
    (start : AreAsKnown (starts_at before.panels) before.panels model.scenes) where
  -- the run from its steps
  ran-by : (d0 d1 : D) (status : Status) (now : Outside) (answers : List FromOutside) (steps : List Step)
      → StepsAreTaken tells files (Where Stood (LeavesOnly clock might d0 d1))
      (begun_at model before) now.faults now.count answers steps
      → Covers files model before.left answers steps → SaysUpToLast before.said steps now.said
      → Says status (λ script. steps_of model script (answers ++ padding files before.left)) before now
      → ((later : List Step) → steps_of model before.left (answers ++ padding files before.left) ≡ steps ++ later
      → PanelsGoAlong status (starts_at before.panels) model (steps_of model before.left (answers ++ padding files before.left)) before now)
      → (status ≡ Done → (images : Images) → MayBeLeft images
      → read_of images ≡ Ok (reading_of (model_after model (steps_of model before.left (answers ++ padding files before.left)))))
      → (Stood → status ≡ Done → (images : Images) → MayBeLeft images
      → StandFor images (after model.state (commands_in (steps_of model before.left (answers ++ padding files before.left)))))
      → Ran tells files model status Stood (LeavesOnly clock might d0 d1) (λ images so_far. ⊥) MayBeLeft before now
  ran-by d0 d1 status now answers steps taken covers upto says along end stands =
      let whole : List Step = steps_of model before.left (answers ++ padding files before.left) in
      record {
        answers = answers ++ padding files before.left;
        told = All-append (IsAnswer tells files) answers (padding files before.left) taken.told (padding-told tells files before.left);
        enough = omega (arith, length-append answers (padding files before.left), length-replicate (length (lines before.left)) (unfailing files));
        says = says;
        failed = subst (λ (k : ℕ). RoseBy k before.faults now.faults)
            (let none : failures_in steps ≡ failures_in steps + failures_in covers.later = omega (arith, covers.mild) in
            none ∙ sym (failures-append steps covers.later) ∙ ap failures_in (sym covers.whole)) taken.failed;
        counted = record {
          taken = steps;
          rest = covers.later;
          split = covers.whole;
          said = upto;
          counted = taken.counted;
        };
        panels = along covers.later covers.whole;
        crash = λ stood. weaker clock might d0 d1 (LeavesPrefix model.state steps before.said)
            (λ images so_far. ⊥ ⊎ LeavesPrefix model.state whole before.said images so_far)
            (λ images so_far x. inr (subst (λ (l : List Step). LeavesPrefix model.state l before.said images so_far) (sym covers.whole)
            (prefix-extended model.state steps covers.later before.said so_far images x))) (taken.crash stood);
        end = end;
        stands = stands;
      }

  -- the steps so far, before those of the rest
  underway-covers : (d0 d1 : D) (left : List ℕ) (at : Standing) → (x : Underway clock might Stood tells files model before d0 d1 left at)
      → Covers files model before.left x.advanced.answers x.advanced.steps
  underway-covers d0 d1 left at x =
      let pad : List FromOutside = padding files before.left in
      covers-first law files model before.left x.advanced.answers x.advanced.steps (record {
        model = at.model;
        number = at.number;
        left = lines (at.line ++ left);
        behind = ap (λ (l : List ℕ). steps_from model 1 (lines l) (x.advanced.answers ++ pad)) x.split ∙ x.advanced.ahead left pad;
      })

  underway-front : (d0 d1 : D) (left : List ℕ) (at : Standing) → (x : Underway clock might Stood tells files model before d0 d1 left at)
      → SaysFront before.said (output_of (steps_of model before.left (x.advanced.answers ++ padding files before.left))) at.said
  underway-front d0 d1 left at x =
      covers-front files model before.left x.advanced.answers x.advanced.steps before.said at.said (underway-covers d0 d1 left at x)
      (front-whole before.said (output_of x.advanced.steps) at.said x.advanced.after.said)

  -- what was said is the replies to the lines that have ended
  underway-ended : (d0 d1 : D) (left : List ℕ) (at : Standing) → (x : Underway clock might Stood tells files model before d0 d1 left at)
      → at.said ≡ before.said ++ output_of (steps_of model (whole_lines x.taken) (x.advanced.answers ++ padding files before.left))
  underway-ended d0 d1 left at x =
      let pad : List FromOutside = padding files before.left in
      x.advanced.after.said ∙ ap (λ (l : List Step). before.said ++ output_of l)
      (sym (steps_of-start model (whole_lines x.taken) (x.advanced.answers ++ pad) ∙ x.advanced.ended_lines begun-unbroken pad))

  -- the source fails at this place
  pub Underway-fault : (d0 d1 : D) (at : Standing) (left left' : List ℕ) → left' ≡ left → Underway clock might Stood tells files model before d0 d1 left at
      → Ran tells files model stops.ScriptFault Stood (LeavesOnly clock might d0 d1) (λ images so_far. ⊥) MayBeLeft before
      (outside_of left' at.said at.faults at.count at.panels)
  Underway-fault d0 d1 at left left' e x =
      ran-by d0 d1 stops.ScriptFault (outside_of left' at.said at.faults at.count at.panels) x.advanced.answers x.advanced.steps
      x.advanced.taken
      (underway-covers d0 d1 left at x) (upto-whole before.said x.advanced.steps at.said x.advanced.after.said)
      (record {
        all = λ d. absurd (let f : stops.ScriptFault ≡ Done = d in cc);
        front = underway-front d0 d1 left at x;
        at_fault = λ d. record {
          taken = x.taken;
          split = x.split ∙ ap (λ (l : List ℕ). x.taken ++ l) (sym e);
          said = underway-ended d0 d1 left at x;
        };
        at_limit = λ d. absurd (let f : stops.ScriptFault ≡ stops.ScriptLong = d in cc);
      })
      (λ later whole. along-after stops.ScriptFault model before at left' _ x.advanced.steps later start whole
      x.advanced.after (λ d. absurd (let f : stops.ScriptFault ≡ Done = d in cc)))
      (λ d. absurd (let f : stops.ScriptFault ≡ Done = d in cc)) (λ stood d. absurd (let f : stops.ScriptFault ≡ Done = d in cc))

  -- the script's limit is reached in the further bytes
  pub Underway-long : (Then : Type 0) → (Stood → Then) → (files' : Files) (d0 d1 d2 : D) (p q : Standing) (left left0 left1 bytes : List ℕ) (room : ℕ)
      → (IsTrue tells → files' ≡ files) → left0 ≡ bytes ++ left1 → length bytes ≡ room → length before.left + room ≡ SCRIPT_LIMIT + length left0
      → Underway clock might Stood tells files model before d0 d1 left0 p → BytesAreTaken tells files' (Where Then (LeavesOnly clock might d1 d2)) p bytes q
      → Ran tells files model stops.ScriptLong Stood (LeavesOnly clock might d0 d2) (λ images so_far. ⊥) MayBeLeft before
      (outside_of left q.said q.faults q.count q.panels)
  Underway-long Then on files' d0 d1 d2 p q left left0 left1 bytes room same e fits counted x y =
      let z : Underway clock might Stood tells files model before d0 d2 left1 q = Underway-next clock might Stood tells files model before Then on files' d0 d1 d2 p q left0 left1 bytes same e x y in
      let spent : length z.taken ≡ SCRIPT_LIMIT
      = omega (arith, ap length z.split, length-append z.taken left1, ap length e, length-append bytes left1, counted, fits) in
      let within : take SCRIPT_LIMIT before.left ≡ z.taken
      = ap (λ (k : ℕ). take k before.left) (sym spent) ∙ ap (λ (l : List ℕ). take (length z.taken) l) z.split ∙ take-append_seam z.taken left1 in
      ran-by d0 d2 stops.ScriptLong (outside_of left q.said q.faults q.count q.panels) z.advanced.answers z.advanced.steps
      z.advanced.taken
      (underway-covers d0 d2 left1 q z) (upto-whole before.said z.advanced.steps q.said z.advanced.after.said)
      (record {
        all = λ d. absurd (let f : stops.ScriptLong ≡ Done = d in cc);
        front = underway-front d0 d2 left1 q z;
        at_fault = λ d. absurd (let f : stops.ScriptLong ≡ stops.ScriptFault = d in cc);
        at_limit = λ d. underway-ended d0 d2 left1 q z
            ∙ ap (λ (l : List ℕ). before.said ++ output_of (steps_of model (whole_lines l) (z.advanced.answers ++ padding files before.left))) (sym within);
      })
      (λ later whole. along-after stops.ScriptLong model before q left _ z.advanced.steps later start whole
      z.advanced.after (λ d. absurd (let f : stops.ScriptLong ≡ Done = d in cc)))
      (λ d. absurd (let f : stops.ScriptLong ≡ Done = d in cc)) (λ stood d. absurd (let f : stops.ScriptLong ≡ Done = d in cc))

  -- the run ends within further bytes
  pub Underway-halted : (Then : Type 0) → (Stood → Then) → (files' : Files) (d0 d1 d2 : D) (at : Standing) (left left0 left1 bytes : List ℕ) (now : Standing) (stop : Stop) (status : Status)
      → status ≡ status_of stop → (IsTrue tells → files' ≡ files) → left0 ≡ bytes ++ left1 → Underway clock might Stood tells files model before d0 d1 left0 at
      → RunIsStopped tells files' (Where Then (LeavesOnly clock might d1 d2)) at bytes now
      → Ran tells files model status Stood (LeavesOnly clock might d0 d2) (λ images so_far. ⊥) MayBeLeft before
      (outside_of left now.said now.faults now.count now.panels)
  Underway-halted Then on files' d0 d1 d2 at left left0 left1 bytes now stop status is same e x y =
      let pad : List FromOutside = padding files before.left in
      let z : RunIsStopped tells files (Where Stood (LeavesOnly clock might d0 d2)) (begun_at model before) (x.taken ++ bytes) now
      = Stopped-then clock might Stood Then on tells files files' d0 d1 d2 (begun_at model before) at x.taken bytes now same x.advanced y in
      let split : before.left ≡ (x.taken ++ bytes) ++ left1
      = x.split ∙ ap (λ (l : List ℕ). x.taken ++ l) e ∙ sym (append_assoc x.taken bytes left1) in
      let covers : Covers files model before.left z.answers z.steps
      = covers-first law files model before.left z.answers z.steps
      (subst (λ (l : List ℕ). ComeFirst z.steps pad (steps_from model 1 (lines l) (z.answers ++ pad))) (sym split) (z.ahead left1 pad)) in
      let other : IsOther status = status_of-other stop status is in
      ran-by d0 d2 status (outside_of left now.said now.faults now.count now.panels) z.answers z.steps z.taken covers z.said
      (other-says files model status before left now.said now.faults now.count now.panels z.answers z.steps other covers
      (upto-front before.said z.steps now.said z.said))
      (λ later whole. along-left status stop model before now left _ z.steps later is start whole z.panels)
      (λ d. absurd (other.not_done d)) (λ stood d. absurd (other.not_done d))

  -- ---- the script ends here

  -- the steps of the last line stand behind those before it
  last-whole : (d0 d1 : D) (left : List ℕ) (at : Standing) (answers : List FromOutside) (steps : List Step) → left ≡ []
      → ((more : List FromOutside) → steps_from at.model at.number (lines (at.line ++ [])) (answers ++ more) ≡ steps)
      → (x : Underway clock might Stood tells files model before d0 d1 left at)
      → steps_from model 1 (lines before.left) ((x.advanced.answers ++ answers) ++ padding files before.left) ≡ x.advanced.steps ++ steps
  last-whole d0 d1 left at answers steps none ahead x =
      let pad : List FromOutside = padding files before.left in
      ap (λ (l : List ℕ). steps_from model 1 (lines l) ((x.advanced.answers ++ answers) ++ pad))
      (x.split ∙ ap (λ (l : List ℕ). x.taken ++ l) none)
      ∙ ap (λ (l : List FromOutside). steps_from model 1 (lines (x.taken ++ [])) l) (append_assoc x.advanced.answers answers pad)
      ∙ x.advanced.ahead [] (answers ++ pad)
      ∙ ap (λ (l : List Step). x.advanced.steps ++ l) (ahead pad)

  pub Underway-done : (Then : Type 0) → (Stood → Then) → (files' : Files) (d0 d1 d2 : D) (at : Standing) (left left0 : List ℕ) (now : Standing)
      → (IsTrue tells → files' ≡ files) → left0 ≡ [] → Underway clock might Stood tells files model before d0 d1 left0 at
      → ScriptIsFinished tells files' (Where Then (LeavesOnly clock might d1 d2)) at now
      → ((images : Images) → MayBeLeft images → read_of images ≡ Ok (reading_of now.model))
      → (Stood → (images : Images) → MayBeLeft images → StandFor images now.model.state)
      → Ran tells files model Done Stood (LeavesOnly clock might d0 d2) (λ images so_far. ⊥) MayBeLeft before
      (outside_of left now.said now.faults now.count now.panels)
  Underway-done Then on files' d0 d1 d2 at left left0 now same none x y reads stands =
      let pad : List FromOutside = padding files before.left in
      let answers : List FromOutside = x.advanced.answers ++ y.answers in
      let steps : List Step = x.advanced.steps ++ y.steps in
      let whole : steps_from model 1 (lines before.left) (answers ++ pad) ≡ steps = last-whole d0 d1 left0 at y.answers y.steps none y.ahead x in
      let is : steps_of model before.left (answers ++ pad) ≡ steps = steps_of-start model before.left (answers ++ pad) ∙ whole in
      let reached : IsAfter (begun_at model before) steps now = IsAfter-then (begun_at model before) at now x.advanced.steps y.steps x.advanced.after y.after in
      let said : now.said ≡ before.said ++ output_of (steps_of model before.left (answers ++ pad)) = reached.said ∙ ap (λ (l : List Step). before.said ++ output_of l) (sym is) in
      let taken : StepsAreTaken tells files (Where Stood (LeavesOnly clock might d0 d2)) (begun_at model before) now.faults now.count answers steps
      = Taken-then clock might Stood Then on tells files files' d0 d1 d2 (begun_at model before) at now.faults now.count
      x.advanced.answers y.answers x.advanced.steps y.steps same x.advanced.after x.advanced.taken y.taken in
      ran-by d0 d2 Done (outside_of left now.said now.faults now.count now.panels) answers steps taken
      (covers-all files model before.left answers steps whole) (upto-whole before.said steps now.said reached.said)
      (record {
        all = λ d. said;
        front = front-whole before.said (output_of (steps_of model before.left (answers ++ pad))) now.said said;
        at_fault = λ d. absurd (let e : Done ≡ stops.ScriptFault = d in cc);
        at_limit = λ d. absurd (let e : Done ≡ stops.ScriptLong = d in cc);
      })
      (λ later all. along-after Done model before now left _ steps [] start (is ∙ sym (append-nil steps)) reached
      (λ d. refl))
      (λ d images left_so. reads images left_so
      ∙ ap (λ (m : Model). Ok (reading_of m)) (reached.reached ∙ ap (model_after model) (sym is)))
      (λ stood d images left_so. subst (StandFor images)
      (ap (λ (m : Model). m.state) reached.reached ∙ taken.held
      ∙ ap (λ (l : List Step). after model.state (commands_in l)) (sym is)) (stands stood images left_so))

  pub Underway-cut : (Then : Type 0) → (Stood → Then) → (files' : Files) (d0 d1 d2 : D) (at : Standing) (left left0 : List ℕ) (now : Standing) (stop : Stop) (status : Status)
      → status ≡ status_of stop → (IsTrue tells → files' ≡ files) → left0 ≡ [] → Underway clock might Stood tells files model before d0 d1 left0 at
      → ScriptIsUnfinished tells files' (Where Then (LeavesOnly clock might d1 d2)) at now
      → Ran tells files model status Stood (LeavesOnly clock might d0 d2) (λ images so_far. ⊥) MayBeLeft before
      (outside_of left now.said now.faults now.count now.panels)
  Underway-cut Then on files' d0 d1 d2 at left left0 now stop status is same none x y =
      let answers : List FromOutside = x.advanced.answers ++ y.answers in
      let steps : List Step = x.advanced.steps ++ y.steps in
      let covers : Covers files model before.left answers steps
      = covers-all files model before.left answers steps (last-whole d0 d1 left0 at y.answers y.steps none y.ahead x) in
      let other : IsOther status = status_of-other stop status is in
      let upto : SaysUpToLast before.said steps now.said
      = upto-after before.said at.said now.said x.advanced.steps y.steps x.advanced.after.said y.said in
      ran-by d0 d2 status (outside_of left now.said now.faults now.count now.panels) answers steps
      (Taken-then clock might Stood Then on tells files files' d0 d1 d2 (begun_at model before) at now.faults now.count
      x.advanced.answers y.answers x.advanced.steps y.steps same x.advanced.after x.advanced.taken y.taken)
      covers upto
      (other-says files model status before left now.said now.faults now.count now.panels answers steps other covers
      (upto-front before.said steps now.said upto))
      (λ later whole. along-left status stop model before now left _ steps later is start whole
      (left-then (begun_at model before) at now x.advanced.steps y.steps x.advanced.after y.panels))
      (λ d. absurd (other.not_done d)) (λ stood d. absurd (other.not_done d))

-- a script that was read to its end has at most its limit
pub read-within : (script left : List ℕ) (room : ℕ) → length script + room ≡ SCRIPT_LIMIT + length left → left ≡ [] → length script ≤ SCRIPT_LIMIT
read-within script left room counted none = omega (arith, counted, ap length none)

-- ---- what a source gave

pub pull-part : (m n : ℕ) (buffer left0 left1 : List ℕ) → m ≤ n → left0 ≡ take n buffer ++ left1 → left0 ≡ take m buffer ++ (drop m (take n buffer) ++ left1)
pull-part m n buffer left0 left1 h e =
    e ∙ ap (λ (l : List ℕ). l ++ left1) (sym (take-append-drop m (take n buffer)) ∙ ap (λ (l : List ℕ). l ++ drop m (take n buffer)) (take-take m n buffer h))
    ∙ append_assoc (take m buffer) (drop m (take n buffer)) left1

pub pull-whole : (m n : ℕ) (buffer left0 left1 : List ℕ) → m ≡ n → left0 ≡ take n buffer ++ left1 → left0 ≡ take m buffer ++ left1
pull-whole m n buffer left0 left1 h e = e ∙ ap (λ (k : ℕ). take k buffer ++ left1) (sym h)

pub length-pull : (n : ℕ) (buffer left0 left1 : List ℕ) → n ≤ length buffer → left0 ≡ take n buffer ++ left1 → length left0 ≡ n + length left1
length-pull n buffer left0 left1 h e =
    ap length e ∙ length-append (take n buffer) left1 ∙ ap (λ (k : ℕ). k + length left1) (length-take-le n buffer h)

decided : (a b : ℕ) → (a ≤ b) ⊎ (b ≤ a)
decided a b = elim (leb a b) as (λ v. leb a b ≡ v → (a ≤ b) ⊎ (b ≤ a)) [ true ↦ λ e. inl (grind (arith, nat_tests)) | false ↦ λ e. inr (grind (arith, nat_tests)) ] refl

pub given-more : (m n a b c : ℕ) → RoseBy m a b → c ≡ min (b + n) LAST → RoseBy (m + n) a c
given-more m n a b c (inl x) e = elim (decided (b + n) LAST) as (λ _. RoseBy (m + n) a c) [ inl h ↦ inl (omega arith) | inr h ↦ inr (omega arith) ]
given-more m n a b c (inr x) e = inr (omega arith)
