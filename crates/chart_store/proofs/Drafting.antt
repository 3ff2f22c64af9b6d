-- Changes that are made in turn, some now and the others later.
use Rattle.std.proofs.Common.{◌≡◌, ◌≢◌, ℕ, ◌+◌, ◌-◌, ◌≤◌, min, Bool, cond, List, ◌++◌, length, take, drop}
use Rattle.std.proofs.Common.{Option, Some, None, IfSome, IsSome, Result, Ok, Err, refl, sym, ◌∙◌, ap, arith}
use Rattle.std.proofs.Math.Nat.{le-min, min-eq_left, min-eq_right}
use Rattle.std.proofs.lemmas.List.{length-drop, take_all}
use Rattle.chart_model.specs.Answers.{◌>>=◌}
use Rattle.std.proofs.Math.Seq.{take-add}
use Rattle.chart_model.specs.Cell.{CellValue}
use Rattle.chart_model.specs.Change.{Change}
use Rattle.chart_model.specs.Dataset.{DatasetValue}
use Rattle.update_sequence.specs.Built.{built, folded, folded_after}
use Rattle.update_sequence.specs.Draft.{Advances, DraftValue, finished, first_draft}
use Rattle.update_sequence.specs.declared.effect.Effect.{Effect}
use Rattle.update_sequence.specs.declared.effect.Effect.TheVariants.{Replace, Extend, Cancel}
use Rattle.update_sequence.specs.declared.fault.BuildFault.{BuildFault}
use Rattle.chart_store.specs.declared.changed.Targets.{Targets}
use Rattle.chart_store.specs.Begun.{AreOfUpdate, AreTargets, IsDraftOf, chart_finished}
use Rattle.chart_store.specs.Fault.{or_refused}
use Rattle.chart_store.specs.Refusal.{refusal_of_build}
use Rattle.chart_store.specs.Loaded.{chart_after, chart_built}
use Rattle.chart_store.specs.Staging.{chart_below}
use Rattle.chart_store.specs.Taken.{MayBuild}

-- changes are made in turn
abbrev pub InTurn : Type 0
InTurn = (cell : CellValue) (first rest : List Change) →
    folded cell (first ++ rest) ≡ folded_after (folded cell first) rest

-- ---- some, and then others

-- what the first n and then m more make
pub folded-add : InTurn → (cell : CellValue) (changes : List Change) (n m : ℕ) →
    folded cell (take (n + m) changes) ≡ folded_after (folded cell (take n changes)) (take m (drop n changes))
folded-add turn cell changes n m =
    ap (folded cell) (take-add n m changes) ∙ turn cell (take n changes) (take m (drop n changes))

pub folded-on : InTurn → (cell after : CellValue) (changes rest : List Change) (n m : ℕ) →
    folded cell (take n changes) ≡ Ok after → rest ≡ drop n changes →
    folded cell (take (n + m) changes) ≡ folded after (take m rest)
folded-on turn cell after changes rest n m made left =
    folded-add turn cell changes n m
    ∙ ap (λ (r : Result CellValue BuildFault). folded_after r (take m (drop n changes))) made
    ∙ ap (λ (l : List Change). folded after (take m l)) (sym left)

-- a fault stays the first
pub folded-stays : InTurn → (cell : CellValue) (changes : List Change) (n m : ℕ) (fault : BuildFault) →
    folded cell (take n changes) ≡ Err fault → folded cell (take (n + m) changes) ≡ Err fault
folded-stays turn cell changes n m fault stops =
    folded-add turn cell changes n m
    ∙ ap (λ (r : Result CellValue BuildFault). folded_after r (take m (drop n changes))) stops

-- all that are there
pub take-over : {A : Type 0} (xs : List A) (n m : ℕ) → length xs ≤ n → length xs ≤ m → take n xs ≡ take m xs
take-over xs n m more others = take_all n xs more ∙ sym (take_all m xs others)

-- ---- a draft

-- changes that are made leave what a draft comes to as it was
abbrev pub Comes : Type 0
Comes = (before after : DraftValue) (made : ℕ) → Advances before after made → finished after ≡ finished before

-- the chart of a data set is the one that its draft comes to
abbrev pub Builds : Type 0
Builds = (chart : Option CellValue) (dataset : DatasetValue) → built chart dataset ≡ finished (first_draft chart dataset)

pub finished-built : Comes → Builds → (chart : Option CellValue) (dataset : DatasetValue) (done : ℕ)
    (draft : DraftValue) → IsDraftOf chart dataset done draft →
    finished draft ≡ built (chart_below chart dataset) dataset
finished-built comes builds chart dataset done draft is =
    comes (first_draft (chart_below chart dataset) dataset) draft done is
    ∙ sym (builds (chart_below chart dataset) dataset)

-- the chart after a base file, or after an update
pub after-is : (chart : Option CellValue) (effect : Effect) (dataset : DatasetValue) → MayBuild chart effect dataset →
    effect ≢ Cancel → chart_after chart effect dataset ≡ chart_built (chart_below chart dataset) dataset
after-is chart Replace dataset may other =
    ap (λ (base : Bool). chart_built (cond base None chart) dataset) (sym (may.base refl))
after-is chart Extend dataset may other =
    ap (λ (base : Bool). chart_built (cond base None chart) dataset) (sym (may.update refl))
after-is chart Cancel dataset may other = absurd (other refl)

-- ---- by what the calls ensure

pub finished-after : Comes → Builds → (chart : Option CellValue) (effect : Effect) (dataset : DatasetValue) (done : ℕ)
    (draft : DraftValue) → MayBuild chart effect dataset → effect ≢ Cancel → IsDraftOf chart dataset done draft →
    chart_finished draft ≡ chart_after chart effect dataset
finished-after comes builds chart effect dataset done draft may other is =
    ap (λ (r : Result CellValue BuildFault). or_refused refusal_of_build r >>= λ after. Ok (Some after))
    (finished-built comes builds chart dataset done draft is)
    ∙ sym (after-is chart effect dataset may other)

ok_is : {A E : Type 0} {x y : A} → ◌≡◌ {A = Result A E} (Ok x) (Ok y) → x ≡ y
ok_is e = cc

-- an update makes one chart of another
pub of-update : (targets : Option Targets) (chart after : Option CellValue) (effect : Effect) (dataset : DatasetValue) →
    MayBuild chart effect dataset → IfSome targets (λ t. effect ≡ Extend) →
    IfSome targets (AreTargets dataset.changes) → chart_after chart effect dataset ≡ Ok after →
    IfSome targets (λ t. AreOfUpdate t chart after)
of-update None chart after effect dataset may update are made = tt
of-update (Some targets) chart after effect dataset may update are made =
    let here = is_some chart (may.there update) in
    let built_on = chart-built-is (built chart dataset) after
    (ap (λ (e : Effect). chart_after chart e dataset) (sym update) ∙ made) in
    record {
      chart = here.0;
      now = built_on.0;
      before_is = here.1;
      after_is = built_on.1;
      dataset = dataset;
      builds = ap (λ (c : Option CellValue). built c dataset) (sym here.1) ∙ built_on.2;
      named = are;
    }
  where
    is_some : (o : Option CellValue) → IsSome o → (x : CellValue) × (o ≡ Some x)
    is_some None h = absurd cc
    is_some (Some x) h = (x, refl)

    chart-built-is : (r : Result CellValue BuildFault) (after : Option CellValue) →
        (or_refused refusal_of_build r >>= λ made. Ok (Some made)) ≡ Ok after →
        (x : CellValue) × (after ≡ Some x) × (r ≡ Ok x)
    chart-built-is (Ok cell) after e = (cell, sym (ok_is e), refl)
    chart-built-is (Err fault) after e = absurd cc

-- ---- some of those that are left

left-is : (before draft : DraftValue) (made : ℕ) → Advances before draft made →
    length draft.rest ≡ length before.rest - made
left-is before draft made is = ap length is.rest ∙ length-drop made before.rest

pub within-left : (before draft : DraftValue) (made n : ℕ) → Advances before draft made → made ≤ n →
    made ≤ min n (length before.rest)
within-left before draft made n is fewer = le-min fewer is.within

-- all of them
pub all-made : (before draft : DraftValue) (made n : ℕ) → Advances before draft made → length draft.rest ≡ 0 → made ≤ n →
    made ≡ min n (length before.rest)
all-made before draft made n is none fewer =
    let left = left-is before draft made is in
    let all : made ≡ length before.rest = omega (arith, left, none, is.within) in
    all ∙ sym (min-eq_right (omega (arith, all, fewer)))

-- so many as were asked for
pub asked-made : (before draft : DraftValue) (made n : ℕ) → Advances before draft made → made ≡ n →
    made ≡ min n (length before.rest)
asked-made before draft made n is same =
    same ∙ sym (min-eq_left (omega (arith, same, is.within)))

pub left-after : (before draft : DraftValue) (made : ℕ) → Advances before draft made → ¬ (length draft.rest ≡ 0) →
    made + 1 ≤ length before.rest
left-after before draft made is some =
    let left = left-is before draft made is in omega (arith, left, is.within, some)
