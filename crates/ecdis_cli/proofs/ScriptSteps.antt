-- The answering of a script, from one standing to the next.
use Rattle.std.proofs.Common.{◌≡◌, ℕ, ◌+◌, ◌<◌, ◌≤◌, Bool, true, false, cond, List, [], ◌∷◌, ◌++◌, length, take, drop, get_or, eqb, ltb, refl, sym, ◌∙◌, ap, subst, arith, inl, inr, append_assoc}
use Rattle.std.specs.Prelude.{Result, Ok, Err, OnOk, OnErr, IsTrue}
use Rattle.std.specs.Str.Lines.{lines, strip_carriage_return}
use Rattle.std.proofs.lemmas.Bool.Decides.{nat_tests}
use Rattle.std.proofs.lemmas.List.{append-nil, take-append-drop, take_more}
use Rattle.std.proofs.lemmas.List.Elements.{All-nil, All-head, All-append}
use Rattle.chart_ports.specs.Moments.{LeavesOnly}
use Rattle.chart_ports.specs.declared.images.Images.{Images}
use Rattle.session_core.specs.Fetch.{Files}
use Rattle.session_core.specs.Model.{Model}
use Rattle.session_core.specs.Outside.{FromOutside}
use Rattle.ecdis_cli.specs.Crash.{LeavesPrefix}
use Rattle.ecdis_cli.specs.WholeLines.{whole_lines}
use Rattle.ecdis_cli.specs.Limits.{KEPT_LIMIT}
use Rattle.ecdis_cli.specs.Progress.{BytesAreTaken, LineIsAnswered, ComeFirst, ScriptIsFinished, ReplyIsInterrupted, IsAfter, PanelsAreLeft, RunIsStopped, StepsAreTaken, HasNoLineFeed, ScriptIsUnfinished, Moments, steps_at}
use Rattle.ecdis_cli.specs.Script.{steps_from}
use Rattle.ecdis_cli.specs.Step.{Step, step_to}
use Rattle.ecdis_cli.specs.Standing.{Standing}
use Rattle.ecdis_cli.proofs.Lines.{All-behind, All-front, Fed, IsCons, ReadByFront, cut_at_feed, ended-append, ended-append_unbroken, ended-fed, ended-line, one_more, steps-ended_none, steps-feed, steps-last, steps-long}
use Rattle.ecdis_cli.proofs.Panels.{follow-none}
use Rattle.ecdis_cli.proofs.Taking.{IsAfter-then, Taken-none, Taken-then, Where, left-none, left-then, upto-after, upto-one, upto-whole}

-- nothing happens at this moment
abbrev pub Quiet : Moments → Standing → Type 0
Quiet Leaves at = Leaves (LeavesPrefix at.model.state [] at.said)

-- where the line under way is another, or has other bytes
abbrev pub at_line : Standing → ℕ → List ℕ → Standing
at_line at number line =
    record {
      model = at.model;
      said = at.said;
      faults = at.faults;
      count = at.count;
      panels = at.panels;
      number = number;
      line = line;
    }

abbrev pub with_line : Standing → List ℕ → Standing
with_line at line = at_line at at.number line

IsAfter-none : (at : Standing) (line : List ℕ) → IsAfter at [] (with_line at line)
IsAfter-none at line = record {
  said = sym (append-nil at.said);
  reached = refl;
  panels = follow-none at.model at.panels;
}

-- steps that are taken at the line are taken where it has other bytes
taken-at : (tells : Bool) (files : Files) (Leaves : Moments) (at : Standing) (line : List ℕ) (faults count : ℕ)
    (answers : List FromOutside)
    (steps : List Step) → StepsAreTaken tells files Leaves (with_line at line) faults count answers steps
    → StepsAreTaken tells files Leaves at faults count answers steps
taken-at tells files Leaves at line faults count answers steps x = record {
  told = x.told;
  spoken = x.spoken;
  held = x.held;
  failed = x.failed;
  later = x.later;
  crash = x.crash;
  counted = x.counted;
}

-- and so it is with panels
left-at : (at : Standing) (line : List ℕ) (now : Standing) (number : ℕ) (line' : List ℕ) (steps : List Step)
    → PanelsAreLeft (with_line at line) steps now → PanelsAreLeft at steps (at_line now number line')
left-at at line now number line' steps x = record {
  answered = x.answered;
  others = x.others;
  whole = x.whole;
  begun = x.begun;
  told = x.told;
  counted = x.counted;
}

-- ---- bytes that end no line

-- no step is taken
unstepped : (tells : Bool) (files : Files) (Leaves : Moments) (at : Standing) (bytes line : List ℕ) → Quiet Leaves at
    → ((rest : List ℕ) (more : List FromOutside) → steps_at at (bytes ++ rest) more ≡ steps_at (with_line at line) rest more)
    → (HasNoLineFeed at.line → HasNoLineFeed (at.line ++ bytes)) → (HasNoLineFeed at.line → HasNoLineFeed line)
    → BytesAreTaken tells files Leaves at bytes (with_line at line)
unstepped tells files Leaves at bytes line crash ahead goes kept = record {
  answers = [];
  steps = [];
  taken = Taken-none tells files Leaves at crash;
  after = IsAfter-none at line;
  ahead = ahead;
  ended_lines = λ h more. steps-ended_none at.model at.number (at.line ++ bytes) more (goes h);
  unended = λ h. refl;
  open_line = kept;
}

pub Advanced-start : (tells : Bool) (files : Files) (Leaves : Moments) (at : Standing) → Quiet Leaves at → BytesAreTaken tells files Leaves at [] at
Advanced-start tells files Leaves at crash =
    unstepped tells files Leaves at [] at.line crash (λ rest more. refl) (λ h. subst HasNoLineFeed (sym (append-nil at.line)) h) (λ h. h)

pub Advanced-kept : (tells : Bool) (files : Files) (Leaves : Moments) (at : Standing) (byte : ℕ) → Quiet Leaves at → eqb byte 10 ≡ false
    → BytesAreTaken tells files Leaves at (byte ∷ []) (with_line at (at.line ++ byte ∷ []))
Advanced-kept tells files Leaves at byte crash ne =
    unstepped tells files Leaves at (byte ∷ []) (at.line ++ byte ∷ []) crash
    (λ rest more. ap (λ (l : List ℕ). steps_from at.model at.number (lines l) more) (sym (append_assoc at.line (byte ∷ []) rest)))
    (λ h. one_more at.line byte h ne) (λ h. one_more at.line byte h ne)

pub Advanced-dropped : ReadByFront → (tells : Bool) (files : Files) (Leaves : Moments) (at : Standing) (byte : ℕ) → Quiet Leaves at
    → 1026 ≤ length at.line → HasNoLineFeed at.line → eqb byte 10 ≡ false → BytesAreTaken tells files Leaves at (byte ∷ []) at
Advanced-dropped law tells files Leaves at byte crash long h ne =
    unstepped tells files Leaves at (byte ∷ []) at.line crash
    (λ rest more. steps-long law at.model at.number at.line byte rest more long h ne)
    (λ u. one_more at.line byte u ne) (λ u. u)

pub Advanced-byte : ReadByFront → (tells : Bool) (files : Files) (Leaves : Moments) (at : Standing) (line' : List ℕ) (byte : ℕ) → Quiet Leaves at
    → HasNoLineFeed at.line → eqb byte 10 ≡ false → line' ≡ cond (ltb (length at.line) KEPT_LIMIT) (at.line ++ byte ∷ []) at.line
    → BytesAreTaken tells files Leaves at (byte ∷ []) (with_line at line')
Advanced-byte law tells files Leaves at line' byte crash h ne e =
    let P : List ℕ → Type 0 = λ (l : List ℕ). BytesAreTaken tells files Leaves at (byte ∷ []) (with_line at l) in
    let cases : (b : Bool) → ltb (length at.line) KEPT_LIMIT ≡ b → P (cond b (at.line ++ byte ∷ []) at.line)
    = λ (b : Bool). elim b as (λ v. ltb (length at.line) KEPT_LIMIT ≡ v → P (cond v (at.line ++ byte ∷ []) at.line)) [
      | true ↦ λ t. Advanced-kept tells files Leaves at byte crash ne
      | false ↦ λ t. Advanced-dropped law tells files Leaves at byte crash (grind (arith, nat_tests)) h ne
    ] in
    subst P (sym e) (cases (ltb (length at.line) KEPT_LIMIT) refl)

-- ---- a line that ends

-- the line of this number was answered, and the next has begun
pub Advanced-feed : (tells : Bool) (files : Files) (Leaves : Moments) (at : Standing) (stripped : List ℕ) (now : Standing) → HasNoLineFeed at.line
    → stripped ≡ strip_carriage_return at.line → LineIsAnswered tells files Leaves (with_line at stripped) now
    → BytesAreTaken tells files Leaves at (10 ∷ []) (at_line now (at.number + 1) [])
Advanced-feed tells files Leaves at stripped now h e x =
    let step : Step = step_to x.outside at.model at.number stripped in
    let here : (rest : List ℕ) (more : List FromOutside) → steps_from at.model at.number (lines (at.line ++ 10 ∷ rest)) (x.outside ∷ more)
    ≡ step ∷ steps_from step.model (at.number + 1) (lines rest) more
    = λ rest more. steps-feed at.model at.number at.line rest (x.outside ∷ more) h
    ∙ ap (λ (l : List ℕ). step_to x.outside at.model at.number l
    ∷ steps_from (step_to x.outside at.model at.number l).model (at.number + 1) (lines rest) more) (sym e) in
    record {
      answers = x.outside ∷ [];
      steps = step ∷ [];
      taken = taken-at tells files Leaves at stripped now.faults now.count (x.outside ∷ []) (step ∷ []) x.taken;
      after = record { said = x.after.said; reached = x.after.reached; panels = x.after.panels };
      ahead = λ rest more. here rest more
          ∙ ap (λ (m : Model). step ∷ steps_from m (at.number + 1) (lines rest) more) (sym x.after.reached);
      ended_lines = λ u more. ap (λ (l : List ℕ). steps_from at.model at.number (lines l) (x.outside ∷ more)) (ended-line at.line) ∙ here [] more;
      unended = λ u. absurd (let f : true ≡ false = All-head (λ b. eqb b 10 ≡ false) 10 [] u in cc);
      open_line = λ u. All-nil (λ b. eqb b 10 ≡ false);
    }

-- no more than a front of its reply was said
pub Stopped-feed : (tells : Bool) (files : Files) (Leaves : Moments) (at : Standing) (stripped : List ℕ) (now : Standing) (number : ℕ) (line : List ℕ)
    → HasNoLineFeed at.line → stripped ≡ strip_carriage_return at.line → ReplyIsInterrupted tells files Leaves (with_line at stripped) now
    → RunIsStopped tells files Leaves at (10 ∷ []) (at_line now number line)
Stopped-feed tells files Leaves at stripped now number line h e x =
    let step : Step = step_to x.outside at.model at.number stripped in
    record {
      answers = x.outside ∷ [];
      steps = step ∷ [];
      taken = taken-at tells files Leaves at stripped now.faults now.count (x.outside ∷ []) (step ∷ []) x.taken;
      said = upto-one at.said step now.said x.front;
      panels = left-at at stripped now number line (step ∷ []) x.panels;
      ahead = λ rest more. record {
        model = step.model;
        number = at.number + 1;
        left = lines rest;
        behind = steps-feed at.model at.number at.line rest (x.outside ∷ more) h
            ∙ ap (λ (l : List ℕ). step_to x.outside at.model at.number l
            ∷ steps_from (step_to x.outside at.model at.number l).model (at.number + 1) (lines rest) more) (sym e);
      };
    }

-- ---- the last line

-- there is none
pub Finished-none : (tells : Bool) (files : Files) (Leaves : Moments) (at : Standing) → Quiet Leaves at → at.line ≡ [] → ScriptIsFinished tells files Leaves at at
Finished-none tells files Leaves at crash none = record {
  answers = [];
  steps = [];
  taken = Taken-none tells files Leaves at crash;
  after = IsAfter-none at at.line;
  ahead = λ more. ap (λ (l : List ℕ). steps_from at.model at.number (lines (l ++ [])) more) none;
}

last-ahead : (at : Standing) (outside : FromOutside) (more : List FromOutside) → HasNoLineFeed at.line → 0 < length at.line
    → steps_at at [] (outside ∷ more) ≡ step_to outside at.model at.number at.line ∷ []
last-ahead at outside more h some =
    ap (λ (l : List ℕ). steps_from at.model at.number (lines l) (outside ∷ more)) (append-nil at.line)
    ∙ steps-last at.model at.number at.line (outside ∷ more) h some

pub Finished-last : (tells : Bool) (files : Files) (Leaves : Moments) (at : Standing) (shown : List ℕ) (now : Standing) (number : ℕ) (line : List ℕ)
    → shown ≡ at.line → HasNoLineFeed at.line → 0 < length at.line → LineIsAnswered tells files Leaves (with_line at shown) now
    → ScriptIsFinished tells files Leaves at (at_line now number line)
Finished-last tells files Leaves at shown now number line same h some x = record {
  answers = x.outside ∷ [];
  steps = step_to x.outside at.model at.number shown ∷ [];
  taken = taken-at tells files Leaves at shown now.faults now.count (x.outside ∷ [])
      (step_to x.outside at.model at.number shown ∷ []) x.taken;
  after = record { said = x.after.said; reached = x.after.reached; panels = x.after.panels };
  ahead = λ more. last-ahead at x.outside more h some ∙ ap (λ (l : List ℕ). step_to x.outside at.model at.number l ∷ []) (sym same);
}

pub Unfinished-last : (tells : Bool) (files : Files) (Leaves : Moments) (at : Standing) (shown : List ℕ) (now : Standing) (number : ℕ) (line : List ℕ)
    → shown ≡ at.line → HasNoLineFeed at.line → 0 < length at.line → ReplyIsInterrupted tells files Leaves (with_line at shown) now
    → ScriptIsUnfinished tells files Leaves at (at_line now number line)
Unfinished-last tells files Leaves at shown now number line same h some x = record {
  answers = x.outside ∷ [];
  steps = step_to x.outside at.model at.number shown ∷ [];
  taken = taken-at tells files Leaves at shown now.faults now.count (x.outside ∷ [])
      (step_to x.outside at.model at.number shown ∷ []) x.taken;
  said = upto-one at.said (step_to x.outside at.model at.number shown) now.said x.front;
  panels = left-at at shown now number line (step_to x.outside at.model at.number shown ∷ []) x.panels;
  ahead = λ more. last-ahead at x.outside more h some ∙ ap (λ (l : List ℕ). step_to x.outside at.model at.number l ∷ []) (sym same);
}

-- ---- the end within bytes

-- there was no memory for the next byte
pub Stopped-start : (tells : Bool) (files : Files) (Leaves : Moments) (at : Standing) (bytes : List ℕ) (model : Model) (number : ℕ) (line : List ℕ)
    → Quiet Leaves at
    → RunIsStopped tells files Leaves at bytes
    (record {
      model = model;
      said = at.said;
      faults = at.faults;
      count = at.count;
      panels = at.panels;
      number = number;
      line = line;
    })
Stopped-start tells files Leaves at bytes model number line crash = record {
  answers = [];
  steps = [];
  taken = Taken-none tells files Leaves at crash;
  said = upto-whole at.said [] at.said (sym (append-nil at.said));
  panels = left-none at (record {
    model = model;
    said = at.said;
    faults = at.faults;
    count = at.count;
    panels = at.panels;
    number = number;
    line = line;
  }) refl refl;
  ahead = λ rest more. record {
    model = at.model;
    number = at.number;
    left = lines (at.line ++ (bytes ++ rest));
    behind = refl;
  };
}

pub Stopped-more : (tells : Bool) (files : Files) (Leaves : Moments) (at : Standing) (bytes more : List ℕ) (now : Standing)
    → RunIsStopped tells files Leaves at bytes now → RunIsStopped tells files Leaves at (bytes ++ more) now
Stopped-more tells files Leaves at bytes more now x = record {
  answers = x.answers;
  steps = x.steps;
  taken = x.taken;
  said = x.said;
  panels = x.panels;
  ahead = λ rest others. subst (λ (l : List ℕ). ComeFirst x.steps others (steps_at at l (x.answers ++ others)))
      (sym (append_assoc bytes more rest)) (x.ahead (more ++ rest) others);
}

-- ---- one after another

module _ {D : Type 0} (clock : D → ℕ) (might : D → ℕ → Images → List ℕ → Type 0) (Held Then : Type 0) (on : Held → Then) where
  -- the steps of the lines that have ended, where no line or some line ends in the later bytes
  then-unbroken : (tells : Bool) (files files' : Files) (A B : Moments) (p q r : Standing) (bytes more : List ℕ)
      → HasNoLineFeed p.line → HasNoLineFeed more → (x : BytesAreTaken tells files A p bytes q) (y : BytesAreTaken tells files' B q more r) (others : List FromOutside)
      → steps_from p.model p.number (lines (whole_lines (p.line ++ (bytes ++ more)))) ((x.answers ++ y.answers) ++ others) ≡ x.steps ++ y.steps
  then-unbroken tells files files' A B p q r bytes more h u x y others =
      let none : y.steps ≡ [] = sym (y.ended_lines (x.open_line h) others)
      ∙ steps-ended_none q.model q.number (q.line ++ more) (y.answers ++ others) (All-append (λ b. eqb b 10 ≡ false) q.line more (x.open_line h) u) in
      ap (λ (l : List ℕ). steps_from p.model p.number (lines l) ((x.answers ++ y.answers) ++ others))
      (ap whole_lines (sym (append_assoc p.line bytes more)) ∙ ended-append_unbroken (p.line ++ bytes) more u)
      ∙ ap (λ (l : List FromOutside). steps_from p.model p.number (lines (whole_lines (p.line ++ bytes))) (l ++ others))
      (ap (λ (l : List FromOutside). x.answers ++ l) (y.unended u) ∙ append-nil x.answers)
      ∙ x.ended_lines h others
      ∙ sym (ap (λ (l : List Step). x.steps ++ l) none ∙ append-nil x.steps)

  then-fed : (tells : Bool) (files files' : Files) (A B : Moments) (p q r : Standing) (bytes more : List ℕ)
      → HasNoLineFeed p.line → Fed more → (x : BytesAreTaken tells files A p bytes q) (y : BytesAreTaken tells files' B q more r) (others : List FromOutside)
      → steps_from p.model p.number (lines (whole_lines (p.line ++ (bytes ++ more)))) ((x.answers ++ y.answers) ++ others) ≡ x.steps ++ y.steps
  then-fed tells files files' A B p q r bytes more h f x y others =
      let some : IsCons (whole_lines more) = ended-fed more f in
      ap (λ (l : List ℕ). steps_from p.model p.number (lines l) ((x.answers ++ y.answers) ++ others))
      (ap whole_lines (sym (append_assoc p.line bytes more)) ∙ ended-append (p.line ++ bytes) more some ∙ append_assoc p.line bytes (whole_lines more))
      ∙ ap (λ (l : List FromOutside). steps_at p (bytes ++ whole_lines more) l) (append_assoc x.answers y.answers others)
      ∙ x.ahead (whole_lines more) (y.answers ++ others)
      ∙ ap (λ (l : List Step). x.steps ++ l)
      (ap (λ (l : List ℕ). steps_from q.model q.number (lines l) (y.answers ++ others)) (sym (ended-append q.line more some))
      ∙ y.ended_lines (x.open_line h) others)

  pub Advanced-then : (tells : Bool) (files files' : Files) (d0 d1 d2 : D) (p q r : Standing) (bytes more : List ℕ)
      → (IsTrue tells → files' ≡ files) → BytesAreTaken tells files (Where Held (LeavesOnly clock might d0 d1)) p bytes q
      → BytesAreTaken tells files' (Where Then (LeavesOnly clock might d1 d2)) q more r
      → BytesAreTaken tells files (Where Held (LeavesOnly clock might d0 d2)) p (bytes ++ more) r
  Advanced-then tells files files' d0 d1 d2 p q r bytes more same x y = record {
    answers = x.answers ++ y.answers;
    steps = x.steps ++ y.steps;
    taken = Taken-then clock might Held Then on tells files files' d0 d1 d2 p q r.faults r.count x.answers y.answers x.steps y.steps
        same x.after x.taken y.taken;
    after = IsAfter-then p q r x.steps y.steps x.after y.after;
    ahead = λ rest others.
        ap (λ (l : List ℕ). steps_at p l ((x.answers ++ y.answers) ++ others)) (append_assoc bytes more rest)
        ∙ ap (λ (l : List FromOutside). steps_at p (bytes ++ (more ++ rest)) l) (append_assoc x.answers y.answers others)
        ∙ x.ahead (more ++ rest) (y.answers ++ others)
        ∙ ap (λ (l : List Step). x.steps ++ l) (y.ahead rest others)
        ∙ sym (append_assoc x.steps y.steps (steps_at r rest others));
    ended_lines = λ h others. elim (cut_at_feed more) as (λ _. steps_from p.model p.number (lines (whole_lines (p.line ++ (bytes ++ more)))) ((x.answers ++ y.answers) ++ others) ≡ x.steps ++ y.steps) [
      | inl u ↦ then-unbroken tells files files' (Where Held (LeavesOnly clock might d0 d1)) (Where Then (LeavesOnly clock might d1 d2)) p q r bytes more h u x y others
      | inr f ↦ then-fed tells files files' (Where Held (LeavesOnly clock might d0 d1)) (Where Then (LeavesOnly clock might d1 d2)) p q r bytes more h f x y others
    ];
    unended = λ u. ap (λ (l : List FromOutside). l ++ y.answers) (x.unended (All-front bytes more u)) ∙ y.unended (All-behind bytes more u);
    open_line = λ h. y.open_line (x.open_line h);
  }

  pub Stopped-then : (tells : Bool) (files files' : Files) (d0 d1 d2 : D) (p q : Standing) (bytes more : List ℕ) (now : Standing)
      → (IsTrue tells → files' ≡ files) → BytesAreTaken tells files (Where Held (LeavesOnly clock might d0 d1)) p bytes q
      → RunIsStopped tells files' (Where Then (LeavesOnly clock might d1 d2)) q more now
      → RunIsStopped tells files (Where Held (LeavesOnly clock might d0 d2)) p (bytes ++ more) now
  Stopped-then tells files files' d0 d1 d2 p q bytes more now same x y = record {
    answers = x.answers ++ y.answers;
    steps = x.steps ++ y.steps;
    taken = Taken-then clock might Held Then on tells files files' d0 d1 d2 p q now.faults now.count x.answers y.answers x.steps
        y.steps same x.after x.taken y.taken;
    said = upto-after p.said q.said now.said x.steps y.steps x.after.said y.said;
    panels = left-then p q now x.steps y.steps x.after y.panels;
    ahead = λ rest others.
        let z : ComeFirst y.steps others (steps_at q (more ++ rest) (y.answers ++ others)) = y.ahead rest others in
        record {
          model = z.model;
          number = z.number;
          left = z.left;
          behind = ap (λ (l : List ℕ). steps_at p l ((x.answers ++ y.answers) ++ others)) (append_assoc bytes more rest)
              ∙ ap (λ (l : List FromOutside). steps_at p (bytes ++ (more ++ rest)) l) (append_assoc x.answers y.answers others)
              ∙ x.ahead (more ++ rest) (y.answers ++ others)
              ∙ ap (λ (l : List Step). x.steps ++ l) z.behind
              ∙ sym (append_assoc x.steps y.steps (steps_from z.model z.number z.left others));
        };
  }

  -- one byte more of a slice
  pub Advanced-next : (tells : Bool) (files files' : Files) (d0 d1 d2 : D) (p q r : Standing) (bytes : List ℕ) (i : ℕ)
      → (IsTrue tells → files' ≡ files) → i < length bytes
      → BytesAreTaken tells files (Where Held (LeavesOnly clock might d0 d1)) p (take i bytes) q
      → BytesAreTaken tells files' (Where Then (LeavesOnly clock might d1 d2)) q (get_or bytes i 0 ∷ []) r
      → BytesAreTaken tells files (Where Held (LeavesOnly clock might d0 d2)) p (take (i + 1) bytes) r
  Advanced-next tells files files' d0 d1 d2 p q r bytes i same within x y =
      subst (λ (bs : List ℕ). BytesAreTaken tells files (Where Held (LeavesOnly clock might d0 d2)) p bs r) (sym (take_more bytes i 0 within))
      (Advanced-then tells files files' d0 d1 d2 p q r (take i bytes) (get_or bytes i 0 ∷ []) same x y)

  pub Stopped-next : (tells : Bool) (files files' : Files) (d0 d1 d2 : D) (p q : Standing) (bytes : List ℕ) (i : ℕ) (now : Standing)
      → (IsTrue tells → files' ≡ files) → i < length bytes
      → BytesAreTaken tells files (Where Held (LeavesOnly clock might d0 d1)) p (take i bytes) q
      → RunIsStopped tells files' (Where Then (LeavesOnly clock might d1 d2)) q (get_or bytes i 0 ∷ []) now
      → RunIsStopped tells files (Where Held (LeavesOnly clock might d0 d2)) p bytes now
  Stopped-next tells files files' d0 d1 d2 p q bytes i now same within x y =
      subst (λ (bs : List ℕ). RunIsStopped tells files (Where Held (LeavesOnly clock might d0 d2)) p bs now)
      (ap (λ (l : List ℕ). l ++ drop (i + 1) bytes) (sym (take_more bytes i 0 within)) ∙ take-append-drop (i + 1) bytes)
      (Stopped-more tells files (Where Held (LeavesOnly clock might d0 d2)) p (take i bytes ++ get_or bytes i 0 ∷ []) (drop (i + 1) bytes) now
      (Stopped-then tells files files' d0 d1 d2 p q (take i bytes) (get_or bytes i 0 ∷ []) now same x y))

-- ---- outcomes

pub OnErr-from : {T E : Type 0} (r : Result T E) (P : Type 0) → P → OnErr r P
OnErr-from (Ok x) P h = tt
OnErr-from (Err e) P h = h

pub OnOk-map : {T E : Type 0} (r : Result T E) (P Q : Type 0) → (P → Q) → OnOk r P → OnOk r Q
OnOk-map (Ok x) P Q f h = f h
OnOk-map (Err e) P Q f h = tt

pub OnErr-map : {T E : Type 0} (r : Result T E) (P Q : Type 0) → (P → Q) → OnErr r P → OnErr r Q
OnErr-map (Ok x) P Q f h = tt
OnErr-map (Err e) P Q f h = f h

pub OnOk-from : {T E : Type 0} (r : Result T E) (P : Type 0) → P → OnOk r P
OnOk-from (Ok x) P h = h
OnOk-from (Err e) P h = tt

-- ---- lengths that were tested

pub emptied : (n : ℕ) → true ≡ eqb n 0 → n ≡ 0
emptied n h = grind (arith, nat_tests)

pub filled : (n : ℕ) → false ≡ eqb n 0 → 0 < n
filled n h = grind (arith, nat_tests)
