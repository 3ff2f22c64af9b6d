-- What a crash leaves of some steps, and of more.
use Rattle.std.proofs.Common.{◌≡◌, ℕ, ◌+◌, ◌<◌, ◌≤◌, ◌⊎◌, ⊎_elim, Bool, true, false, cond, List, [], ◌∷◌, ◌++◌, length, take, eqb, leb, refl, sym, ◌∙◌, ap, subst, arith, inl, inr, append_assoc, length-append}
use Rattle.std.specs.Prelude.{Option, Some, None}
use Rattle.std.specs.List.{All}
use Rattle.std.proofs.lemmas.Bool.Decides.{nat_tests}
use Rattle.std.proofs.lemmas.List.{append-nil, take-append-le, take_all}
use Rattle.std.proofs.Math.Seq.{take-append-add}
use Rattle.chart_model.specs.State.{StateValue}
use Rattle.chart_model.specs.declared.command.Command.{Command}
use Rattle.chart_ports.specs.Said.{SaysFront}
use Rattle.chart_ports.specs.declared.images.Images.{Images}
use Rattle.chart_store.specs.Images.{StandFor}
use Rattle.chart_store.specs.Outcome.{after}
use Rattle.chart_store.specs.Store.{StandsForEither}
use Rattle.ecdis_cli.specs.Crash.{LeavesPrefix}
use Rattle.ecdis_cli.specs.Progress.{IsSpoken}
use Rattle.ecdis_cli.specs.Script.{commands_in, commands_of, output_of}
use Rattle.ecdis_cli.specs.Step.{Step, said_in}
use Rattle.ecdis_cli.proofs.Lists.{acknowledged, acknowledged-behind, after-append, after-none, begun-front, commands-append, output-append}

-- nothing was said, and no step taken
pub prefix-none : (state : StateValue) (said so_far : List ℕ) (images : Images) → so_far ≡ said → StandFor images state
    → LeavesPrefix state [] said images so_far
prefix-none state said so_far images silent stands = record {
  bytes = 0;
  front = silent ∙ sym (append-nil said);
  within = omega arith;
  count = 0;
  there = omega arith;
  acknowledged = inl refl;
  stands = subst (StandFor images) (sym (after-none state)) stands;
}

-- steps that follow change nothing of it
pub prefix-extended : (state : StateValue) (steps more : List Step) (said so_far : List ℕ) (images : Images)
    → LeavesPrefix state steps said images so_far → LeavesPrefix state (steps ++ more) said images so_far
prefix-extended state steps more said so_far images x = record {
  bytes = x.bytes;
  front = x.front ∙ ap (λ (l : List ℕ). said ++ l)
      (sym (ap (take x.bytes) (output-append steps more) ∙ take-append-le x.bytes (output_of steps) (output_of more) x.within));
  within = omega (arith, x.within, ap length (output-append steps more), length-append (output_of steps) (output_of more));
  count = x.count;
  there = omega (
    arith,
    x.there,
    ap length (commands-append steps more),
    length-append (commands_in steps) (commands_in more),
  );
  acknowledged = subst (λ (l : List Step). (x.count ≡ length (commands_in l)) ⊎ (x.count ≡ length (commands_in l) + 1))
      (sym (begun-front x.bytes steps more x.within)) x.acknowledged;
  stands = subst (λ (l : List Command). StandFor images (after state l))
      (sym (ap (take x.count) (commands-append steps more)
      ∙ take-append-le x.count (commands_in steps) (commands_in more) x.there)) x.stands;
}

-- steps whose replies were said whole may stand before
pub prefix-behind : (state between : StateValue) (before steps : List Step) (said middle so_far : List ℕ) (images : Images)
    → All IsSpoken before → middle ≡ said ++ output_of before → between ≡ after state (commands_in before)
    → LeavesPrefix between steps middle images so_far → LeavesPrefix state (before ++ steps) said images so_far
prefix-behind state between before steps said middle so_far images spoken whole held x = record {
  bytes = length (output_of before) + x.bytes;
  front = x.front ∙ ap (λ (l : List ℕ). l ++ take x.bytes (output_of steps)) whole
      ∙ append_assoc said (output_of before) (take x.bytes (output_of steps))
      ∙ ap (λ (l : List ℕ). said ++ l) (sym (ap (take (length (output_of before) + x.bytes)) (output-append before steps)
      ∙ take-append-add (output_of before) (output_of steps) x.bytes));
  within = omega (arith, x.within, ap length (output-append before steps), length-append (output_of before) (output_of steps));
  count = length (commands_in before) + x.count;
  there = omega (
    arith,
    x.there,
    ap length (commands-append before steps),
    length-append (commands_in before) (commands_in steps),
  );
  acknowledged = ⊎_elim (λ (e : x.count ≡ acknowledged x.bytes steps).
      inl (omega (arith, e, acknowledged-behind x.bytes before steps spoken)))
      (λ (e : x.count ≡ acknowledged x.bytes steps + 1).
      inr (omega (arith, e, acknowledged-behind x.bytes before steps spoken))) x.acknowledged;
  stands = subst (StandFor images)
      (ap (λ (s : StateValue). after s (take x.count (commands_in steps))) held
      ∙ sym (after-append state (commands_in before) (take x.count (commands_in steps)))
      ∙ ap (after state) (sym (ap (take (length (commands_in before) + x.count)) (commands-append before steps)
      ∙ take-append-add (commands_in before) (commands_in steps) x.count))) x.stands;
}

-- ---- one step

-- at most one command
one-command : (step : Step) → length (commands_in (step ∷ [])) ≤ 1
one-command step = elim step.command as (λ (o : Option Command). length (commands_of o ++ []) ≤ 1) [
  | None ↦ omega arith
  | Some command ↦ omega arith
]

at-most-one : (n : ℕ) → n ≤ 1 → (n ≡ 0) ⊎ (n ≡ 0 + 1)
at-most-one n h = elim (eqb n 0) as (λ v. eqb n 0 ≡ v → (n ≡ 0) ⊎ (n ≡ 0 + 1)) [
  | true ↦ λ e. inl (grind (arith, nat_tests))
  | false ↦ λ e. inr (grind (arith, nat_tests))
] refl

take-whole : {A : Type 0} (l : List A) → take (length l) l ≡ l
take-whole l = take_all (length l) l (omega arith)

-- what is left by the step, before its reply is said
pub prefix-unsaid : (state left : StateValue) (step : Step) (said so_far : List ℕ) (images : Images) → so_far ≡ said
    → left ≡ after state (commands_in (step ∷ [])) → StandFor images left → LeavesPrefix state (step ∷ []) said images so_far
prefix-unsaid state left step said so_far images silent held stands = record {
  bytes = 0;
  front = silent ∙ sym (append-nil said);
  within = omega arith;
  count = length (commands_in (step ∷ []));
  there = omega arith;
  acknowledged = at-most-one (length (commands_in (step ∷ []))) (one-command step);
  stands = subst (StandFor images) (held ∙ ap (after state) (sym (take-whole (commands_in (step ∷ []))))) stands;
}

-- a turn: what was held before, or what the step leaves
pub prefix-turn : (state left : StateValue) (step : Step) (said so_far : List ℕ) (images : Images)
    → left ≡ after state (commands_in (step ∷ [])) → StandsForEither said state left images so_far
    → LeavesPrefix state (step ∷ []) said images so_far
prefix-turn state left step said so_far images held x =
    ⊎_elim (λ (s : StandFor images state). prefix-extended state [] (step ∷ []) said so_far images
    (prefix-none state said so_far images x.silent s))
    (λ (s : StandFor images left). prefix-unsaid state left step said so_far images x.silent held s) x.stands

-- some of the reply was said
prefix-begun : (n : ℕ) (state left : StateValue) (step : Step) (said so_far : List ℕ) (images : Images)
    → 0 < n → n ≤ length (said_in step) → so_far ≡ said ++ take n (said_in step)
    → left ≡ after state (commands_in (step ∷ [])) → StandFor images left → LeavesPrefix state (step ∷ []) said images so_far
prefix-begun n state left step said so_far images some within front held stands = record {
  bytes = n;
  front = front ∙ ap (λ (l : List ℕ). said ++ take n l) (sym (append-nil (said_in step)));
  within = omega (arith, within, ap length (append-nil (said_in step)));
  count = length (commands_in (step ∷ []));
  there = omega arith;
  acknowledged = inl (ap (λ (l : List Step). length (commands_in l)) (sym (let no : eqb n 0 ≡ false = grind (arith, nat_tests) in
      ap (λ (v : Bool). cond v [] (step ∷ [])) no)));
  stands = subst (StandFor images) (held ∙ ap (after state) (sym (take-whole (commands_in (step ∷ []))))) stands;
}

prefix-front : (n : ℕ) (state left : StateValue) (step : Step) (said so_far : List ℕ) (images : Images)
    → n ≤ length (said_in step) → so_far ≡ said ++ take n (said_in step)
    → left ≡ after state (commands_in (step ∷ [])) → StandFor images left → LeavesPrefix state (step ∷ []) said images so_far
prefix-front n state left step said so_far images within front held stands =
    elim (eqb n 0) as (λ v. eqb n 0 ≡ v → LeavesPrefix state (step ∷ []) said images so_far) [
      | true ↦ λ e.
          let none : n ≡ 0 = grind (arith, nat_tests) in
          prefix-unsaid state left step said so_far images
          (front ∙ ap (λ (k : ℕ). said ++ take k (said_in step)) none ∙ append-nil said) held stands
      | false ↦ λ e.
          let some : 0 < n = grind (arith, nat_tests) in
          prefix-begun n state left step said so_far images some within front held stands
    ] refl

-- a front of the reply was said
pub prefix-saying : (state left : StateValue) (step : Step) (said so_far : List ℕ) (images : Images)
    → left ≡ after state (commands_in (step ∷ [])) → StandFor images left → SaysFront said (said_in step) so_far
    → LeavesPrefix state (step ∷ []) said images so_far
prefix-saying state left step said so_far images held stands (n, front) =
    let reply : List ℕ = said_in step in
    elim (leb n (length reply)) as (λ v. leb n (length reply) ≡ v → LeavesPrefix state (step ∷ []) said images so_far) [
      | true ↦ λ e.
          let within : n ≤ length reply = grind (arith, nat_tests) in
          prefix-front n state left step said so_far images within front held stands
      | false ↦ λ e.
          let over : length reply ≤ n = grind (arith, nat_tests) in
          prefix-front (length reply) state left step said so_far images (omega arith)
          (front ∙ ap (λ (l : List ℕ). said ++ l) (take_all n reply over ∙ sym (take-whole reply))) held stands
    ] refl
