-- Steps that are taken one after another.
use Rattle.std.proofs.Common.{◌≡◌, ℕ, ◌+◌, ◌≤◌, Bool, false, List, [], ◌∷◌, ◌++◌, length, take, drop, refl, sym, ◌∙◌, ap}
use Rattle.std.proofs.Common.{subst, arith, inl, inr, append_assoc}
use Rattle.std.specs.Prelude.{IsTrue}
use Rattle.std.specs.List.{All}
use Rattle.std.proofs.lemmas.List.{append-nil, take-append-drop}
use Rattle.std.proofs.lemmas.List.Elements.{All-nil, All-append, All-weaker}
use Rattle.std.proofs.Math.Seq.{take-append-add, take-append_seam}
use Rattle.chart_model.specs.State.{StateValue}
use Rattle.chart_ports.specs.Count.{RoseBy}
use Rattle.chart_ports.specs.Moments.{LeavesOnly, MayBeLeft}
use Rattle.chart_ports.specs.Said.{SaysFront}
use Rattle.chart_ports.specs.declared.images.Images.{Images}
use Rattle.chart_ports.proofs.Moments.{started, and_then, weaker}
use Rattle.chart_store.specs.Images.{StandFor}
use Rattle.chart_store.specs.Outcome.{after}
use Rattle.panel_scenes.specs.InStep.{Start}
use Rattle.session_core.specs.Fetch.{Files, fetches_of}
use Rattle.session_core.specs.Model.{Model}
use Rattle.session_core.specs.Outside.{FromOutside}
use Rattle.ecdis_cli.specs.Crash.{LeavesPrefix}
use Rattle.ecdis_cli.specs.Counted.{StepsAreCounted}
use Rattle.ecdis_cli.specs.Panels.{AreAsKnown, HaveCountedFailures, NumbersAreTold, PanelValue, starts_left}
use Rattle.ecdis_cli.specs.Progress.{IsAfter, IsSpoken, Moments, PanelsAreLeft, SaysUpToLast, StepsAreTaken}
use Rattle.ecdis_cli.specs.Script.{IsAnswer, commands_in, failures_in, model_after, output_of}
use Rattle.ecdis_cli.specs.Step.{Step}
use Rattle.ecdis_cli.specs.Standing.{Standing}
use Rattle.ecdis_cli.proofs.Counting.{counted-then}
use Rattle.ecdis_cli.proofs.Crashes.{prefix-behind, prefix-extended, prefix-none}
use Rattle.ecdis_cli.proofs.Panels.{follow-then, known-counted, starts-append, told-append}
use Rattle.ecdis_cli.proofs.Lists.{after-append, after-none, commands-append, failures-append, model_after-append, output-append}

-- what a crash leaves, where this held before
abbrev pub Where : Type 0 → Moments → Moments
Where Held Leaves P = Held → Leaves P

-- ---- fronts

pub front-whole : (before bytes now : List ℕ) → now ≡ before ++ bytes → SaysFront before bytes now
front-whole before bytes now e = (length bytes, e ∙ ap (λ (l : List ℕ). before ++ l) (sym (take-append_seam bytes []) ∙ ap (λ (l : List ℕ). take (length bytes) l) (append-nil bytes)))

pub front-none : (before bytes now : List ℕ) → now ≡ before → SaysFront before bytes now
front-none before bytes now e = (0, e ∙ sym (append-nil before))

pub front-append : (before bytes more now : List ℕ) → SaysFront before bytes now → SaysFront before (bytes ++ more) now
front-append before bytes more now (n, e) =
    let split : bytes ++ more ≡ take n bytes ++ (drop n bytes ++ more)
    = ap (λ (l : List ℕ). l ++ more) (sym (take-append-drop n bytes)) ∙ append_assoc (take n bytes) (drop n bytes) more in (
      length (take n bytes),
      e ∙ ap (λ (l : List ℕ). before ++ l)
          (sym (ap (λ (l : List ℕ). take (length (take n bytes)) l) split ∙ take-append_seam (take n bytes) (drop n bytes ++ more))),
    )

pub front-after : (before said bytes middle now : List ℕ) → middle ≡ before ++ said → SaysFront middle bytes now → SaysFront before (said ++ bytes) now
front-after before said bytes middle now e (n, f) = (
  length said + n,
  f ∙ ap (λ (l : List ℕ). l ++ take n bytes) e ∙ append_assoc before said (take n bytes)
      ∙ ap (λ (l : List ℕ). before ++ l) (sym (take-append-add said bytes n)),
)

pub front-same : (before bytes others now : List ℕ) → bytes ≡ others → SaysFront before bytes now → SaysFront before others now
front-same before bytes others now e h = subst (λ (l : List ℕ). SaysFront before l now) e h

-- ---- replies, and a front of the last one

pub upto-front : (before : List ℕ) (steps : List Step) (now : List ℕ) → SaysUpToLast before steps now
    → SaysFront before (output_of steps) now
upto-front before steps now x =
    front-same before (output_of x.answered ++ output_of x.last) (output_of steps) now
    (sym (ap output_of x.whole ∙ output-append x.answered x.last))
    (front-after before (output_of x.answered) (output_of x.last) (before ++ output_of x.answered) now refl x.front)

-- all replies were said
pub upto-whole : (before : List ℕ) (steps : List Step) (now : List ℕ) → now ≡ before ++ output_of steps
    → SaysUpToLast before steps now
upto-whole before steps now e = record {
  answered = steps;
  last = [];
  whole = sym (append-nil steps);
  one = omega arith;
  front = front-none (before ++ output_of steps) [] now e;
}

-- there is one reply
pub upto-one : (before : List ℕ) (step : Step) (now : List ℕ) → SaysFront before (output_of (step ∷ [])) now
    → SaysUpToLast before (step ∷ []) now
upto-one before step now front = record {
  answered = [];
  last = step ∷ [];
  whole = refl;
  one = omega arith;
  front = subst (λ (l : List ℕ). SaysFront l (output_of (step ∷ [])) now) (sym (append-nil before)) front;
}

-- behind replies that were said
pub upto-after : (before middle now : List ℕ) (steps others : List Step) → middle ≡ before ++ output_of steps
    → SaysUpToLast middle others now → SaysUpToLast before (steps ++ others) now
upto-after before middle now steps others e x = record {
  answered = steps ++ x.answered;
  last = x.last;
  whole = ap (λ (l : List Step). steps ++ l) x.whole ∙ sym (append_assoc steps x.answered x.last);
  one = x.one;
  front = subst (λ (l : List ℕ). SaysFront l (output_of x.last) now)
      (ap (λ (l : List ℕ). l ++ output_of x.answered) e ∙ append_assoc before (output_of steps) (output_of x.answered)
      ∙ ap (λ (l : List ℕ). before ++ l) (sym (output-append steps x.answered))) x.front;
}

-- ---- counts

pub rose-none : (before now : ℕ) → before ≤ now → RoseBy 0 before now
rose-none before now h = inl (omega arith)

pub rose-more : (m n a b c : ℕ) → a ≤ b → b ≤ c → RoseBy m a b → RoseBy n b c → RoseBy (m + n) a c
rose-more m n a b c low high (inl x) (inl y) = inl (omega arith)
rose-more m n a b c low high (inl x) (inr y) = inr y
rose-more m n a b c low high (inr x) y = inr (omega arith)

pub rose-fewer : (m n a b : ℕ) → m ≤ n → RoseBy n a b → RoseBy m a b
rose-fewer m n a b h (inl x) = inl (omega arith)
rose-fewer m n a b h (inr x) = inr x

-- ---- answers from outside

-- what lines get of which nothing else is known: the files of the shelf
abbrev pub unfailing : Files → FromOutside
unfailing files = record {
  fetches = fetches_of files false;
  painting_failed = false;
  numbers = record { blocks = 0; items = 0 };
}

-- the same shelf, later
pub answers-same : (tells : Bool) (files files' : Files) (answers : List FromOutside) → (IsTrue tells → files' ≡ files)
    → All (IsAnswer tells files') answers → All (IsAnswer tells files) answers
answers-same tells files files' answers same told =
    All-weaker (IsAnswer tells files') (IsAnswer tells files)
    (λ outside is. λ t. subst (λ (fs : Files). (failed : Bool) × (outside.fetches ≡ fetches_of fs failed)) (same t) (is t))
    answers told

-- ---- steps

-- no step
pub Taken-none : (tells : Bool) (files : Files) (Leaves : (Images → List ℕ → Type 0) → Type 0) (before : Standing)
    → Leaves (LeavesPrefix before.model.state [] before.said)
    → StepsAreTaken tells files Leaves before before.faults before.count [] []
Taken-none tells files Leaves before crash = record {
  told = All-nil (IsAnswer tells files);
  spoken = All-nil IsSpoken;
  held = sym (after-none before.model.state);
  failed = rose-none before.faults before.faults (omega arith);
  later = omega arith;
  crash = crash;
  counted = omega arith;
}

module _ {D : Type 0} (clock : D → ℕ) (might : D → ℕ → Images → List ℕ → Type 0) where
  -- the present moment alone
  pub quiet : (Held : Type 0) (desk : D) (may_leave : ℕ → List ℕ → Type 0) (said : List ℕ) (state : StateValue)
      → ((images : Images) (so_far : List ℕ) → might desk (clock desk) images so_far → MayBeLeft may_leave images × (so_far ≡ said))
      → (Held → (images : Images) → MayBeLeft may_leave images → StandFor images state)
      → Where Held (LeavesOnly clock might desk desk) (LeavesPrefix state [] said)
  quiet Held desk may_leave said state only_now stands = λ held.
      started clock might desk (LeavesPrefix state [] said)
      (λ images so_far left. let now = only_now images so_far left in prefix-none state said so_far images now.1 (stands held images now.0))

  -- steps after steps
  pub Taken-then : (Held Then : Type 0) → (Held → Then) → (tells : Bool) (files files' : Files) (d0 d1 d2 : D) (before mid : Standing) (faults count : ℕ)
      (answers more : List FromOutside) (steps others : List Step) → (IsTrue tells → files' ≡ files)
      → IsAfter before steps mid
      → StepsAreTaken tells files (Where Held (LeavesOnly clock might d0 d1)) before mid.faults mid.count answers steps
      → StepsAreTaken tells files' (Where Then (LeavesOnly clock might d1 d2)) mid faults count more others
      → StepsAreTaken tells files (Where Held (LeavesOnly clock might d0 d2)) before faults count (answers ++ more) (steps ++ others)
  Taken-then Held Then on tells files files' d0 d1 d2 before mid faults count answers more steps others same is x y =
      let between : mid.model.state ≡ after before.model.state (commands_in steps)
      = ap (λ (m : Model). m.state) is.reached ∙ x.held in
      record {
        told = All-append (IsAnswer tells files) answers more x.told (answers-same tells files files' more same y.told);
        spoken = All-append IsSpoken steps others x.spoken y.spoken;
        held = ap (λ (m : Model). m.state) (model_after-append before.model steps others
            ∙ ap (λ (m : Model). model_after m others) (sym is.reached)) ∙ y.held
            ∙ ap (λ (s : StateValue). after s (commands_in others)) between
            ∙ sym (after-append before.model.state (commands_in steps) (commands_in others))
            ∙ ap (after before.model.state) (sym (commands-append steps others));
        failed = subst (λ (k : ℕ). RoseBy k before.faults faults) (sym (failures-append steps others))
            (rose-more (failures_in steps) (failures_in others) before.faults mid.faults faults x.later y.later x.failed y.failed);
        later = omega (arith, x.later, y.later);
        crash = λ held. and_then clock might d0 d1 d2 (LeavesPrefix before.model.state (steps ++ others) before.said)
            (weaker clock might d0 d1 (LeavesPrefix before.model.state steps before.said)
            (LeavesPrefix before.model.state (steps ++ others) before.said)
            (λ images so_far. prefix-extended before.model.state steps others before.said so_far images) (x.crash held))
            (weaker clock might d1 d2 (LeavesPrefix mid.model.state others mid.said)
            (LeavesPrefix before.model.state (steps ++ others) before.said)
            (λ images so_far. prefix-behind before.model.state mid.model.state steps others before.said mid.said so_far images
            x.spoken is.said between) (y.crash (on held)));
        counted = counted-then before.model steps others before.count mid.count count x.counted
            (subst (λ (m : Model). StepsAreCounted m others mid.count count) is.reached y.counted);
      }

pub IsAfter-then : (before mid now : Standing) (steps others : List Step) → IsAfter before steps mid → IsAfter mid others now
    → IsAfter before (steps ++ others) now
IsAfter-then before mid now steps others x y = record {
  said = y.said ∙ ap (λ (l : List ℕ). l ++ output_of others) x.said ∙ append_assoc before.said (output_of steps) (output_of others)
      ∙ ap (λ (l : List ℕ). before.said ++ l) (sym (output-append steps others));
  reached = y.reached ∙ ap (λ (m : Model). model_after m others) x.reached ∙ sym (model_after-append before.model steps others);
  panels = follow-then before.model mid.model before.panels mid.panels now.panels steps others x.reached x.panels y.panels;
}

-- ---- panels where a run stops

-- what is known behind steps that were answered
known-then : (before mid : Standing) (steps : List Step) → IsAfter before steps mid → (starts : List Start)
    → AreAsKnown starts before.panels before.model.scenes → AreAsKnown (starts_left starts steps) mid.panels mid.model.scenes
known-then before mid steps x starts known =
    subst (λ (m : Model). AreAsKnown (starts_left starts steps) mid.panels m.scenes) (sym x.reached)
    (x.panels.known starts known)

-- behind them
pub left-then : (before mid now : Standing) (steps others : List Step) → IsAfter before steps mid
    → PanelsAreLeft mid others now → PanelsAreLeft before (steps ++ others) now
left-then before mid now steps others x y =
    record {
      answered = steps ++ y.answered;
      others = y.others;
      whole = ap (λ (l : List Step). steps ++ l) y.whole ∙ sym (append_assoc steps y.answered y.others);
      begun = front-same before.said (output_of steps ++ output_of y.answered) (output_of (steps ++ y.answered)) now.said
          (sym (output-append steps y.answered))
          (front-after before.said (output_of steps) (output_of y.answered) mid.said now.said x.said y.begun);
      told = λ starts known. told-append starts before.model steps y.answered (x.panels.told starts known)
          (subst (λ (m : Model). NumbersAreTold (starts_left starts steps) m y.answered) x.reached
          (y.told (starts_left starts steps) (known-then before mid steps x starts known)));
      counted = λ starts known.
          subst (λ (s : List Start). HaveCountedFailures s now.panels (model_after before.model (steps ++ y.answered)).scenes)
          (sym (starts-append starts steps y.answered))
          (subst (λ (m : Model). HaveCountedFailures (starts_left (starts_left starts steps) y.answered) now.panels m.scenes)
          (ap (λ (m : Model). model_after m y.answered) x.reached ∙ sym (model_after-append before.model steps y.answered))
          (y.counted (starts_left starts steps) (known-then before mid steps x starts known)));
    }

-- all steps were answered
pub left-after : (before now : Standing) (steps : List Step) → IsAfter before steps now → PanelsAreLeft before steps now
left-after before now steps x = record {
  answered = steps;
  others = [];
  whole = sym (append-nil steps);
  begun = front-whole before.said (output_of steps) now.said x.said;
  told = λ starts known. x.panels.told starts known;
  counted = λ starts known. known-counted (starts_left starts steps) now.panels (model_after before.model steps).scenes
      (x.panels.known starts known);
}

-- no step was taken
pub left-none : (before now : Standing) → now.said ≡ before.said → now.panels ≡ before.panels → PanelsAreLeft before [] now
left-none before now silent same = record {
  answered = [];
  others = [];
  whole = refl;
  begun = front-none before.said [] now.said silent;
  told = λ starts known. tt;
  counted = λ starts known. subst (λ (panels : List PanelValue). HaveCountedFailures starts panels before.model.scenes)
      (sym same) (known-counted starts before.panels before.model.scenes known);
}
