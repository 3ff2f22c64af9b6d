-- What is put in as it was judged: it can be held, and its chart is built.
use Rattle.std.proofs.Common.{◌≡◌, ◌≢◌, ℕ, false, List, length, Option, Some, None, IfSome, IsSome, IfOk}
use Rattle.std.proofs.Common.{Result, Ok, Err, refl, sym, ◌∙◌, ap, subst}
use Rattle.std.proofs.lemmas.Bool.{true≢false}
use Rattle.std.specs.FinMap as map
use Rattle.chart_closure.specs.Closed.{IsClosed}
use Rattle.chart_difference.specs.Difference.{AreChanged}
use Rattle.chart_model.specs.Answers.{◌>>=◌}
use Rattle.chart_model.specs.Cell.{CellValue}
use Rattle.chart_model.specs.Dataset.{DatasetValue, IsDataset}
use Rattle.chart_model.specs.State.{StateValue, IsFileLength, IsHolding}
use Rattle.chart_model.specs.declared.name.Name.{Name}
use Rattle.chart_model.specs.declared.state.Held.{Held}
use Rattle.chart_model.specs.declared.state.Holding.{Holding}
use Rattle.update_sequence.specs.Reading.{data_set_in}
use Rattle.update_sequence.specs.Judged.{judged}
use Rattle.update_sequence.specs.Rebuilt.{held_by, rebuilt}
use Rattle.update_sequence.specs.Sequence.{IsUpdateSequence}
use Rattle.update_sequence.specs.declared.effect.Effect.{Effect}
use Rattle.update_sequence.specs.declared.effect.Effect.TheVariants.{Replace, Extend, Cancel}
use Rattle.chart_store.specs.declared.refusal.Refusal.{Refusal}
use Rattle.chart_store.specs.declared.fault.TakeFault.{TakeFault}
use Rattle.chart_store.specs.declared.next.Next.{Next}
use Rattle.chart_store.specs.Next.{GivesNextState}
use Rattle.chart_store.specs.Loaded.{HoldingsByKey, store_within}
use Rattle.chart_store.specs.Live.{IsLive, HasClosedChart}
use Rattle.chart_store.specs.Loaded.{held_of, chart_of, held_after, chart_after, cell_after, state_by_effect}
use Rattle.chart_store.specs.Taken.{MayBuild}
use Rattle.chart_store.proofs.Judging.{effect_says, stands_by_base}
use Rattle.chart_store.proofs.CanBeHeld.{Builds, IsKeepable, next-held}
use Rattle.chart_store.proofs.Loading.{WasLive}
use Rattle.chart_store.proofs.Keeping.{some_is}

-- ---- what is live

-- what is live can be held
pub live-held : ((key : List ℕ) (files : List (List ℕ)) → IsUpdateSequence key files → (held : Held) ×
    (held_by files ≡ Some held) × IsHolding key (record { held = held; files = files; chart = rebuilt files }))
    → (key : List ℕ) (here : Holding) → IsLive key here → IsHolding key here
live-held holds key here h =
    let x = holds key here.files h.sequence in
    let same : x.0 ≡ here.held = some_is (sym x.1 ∙ h.numbers) in
    subst (λ (held : Held). IsHolding key (record { held = held; files = here.files; chart = here.chart })) same
    (subst (λ (chart : Option CellValue). IsHolding key (record { held = x.0; files = here.files; chart = chart }))
    h.builds x.2)

pub live-held-if : ((key : List ℕ) (files : List (List ℕ)) → IsUpdateSequence key files → (held : Held) ×
    (held_by files ≡ Some held) × IsHolding key (record { held = held; files = files; chart = rebuilt files }))
    → (key : List ℕ) (holding : Option Holding) → IfSome holding (IsLive key) → IfSome holding (IsHolding key)
live-held-if holds key None h = tt
live-held-if holds key (Some here) h = live-held holds key here h

-- the chart of a cell that is held is closed
pub closed-before : ((key : List ℕ) (files : List (List ℕ)) → IsUpdateSequence key files → IfSome (rebuilt files) IsClosed)
    → (key : List ℕ) (before : Option Holding) → WasLive key before → IfSome (chart_of before) IsClosed
closed-before closed key None h = tt
closed-before closed key (Some here) h =
    subst (λ (chart : Option CellValue). IfSome chart IsClosed) h.builds (closed key here.files h.sequence)

-- a cell that isn't cancelled has a chart
has_chart : (key : List ℕ) (before : Option Holding) (here : Held) → IfSome before (IsHolding key) →
    held_of before ≡ Some here → here.cancelled ≡ false → IsSome (chart_of before)
has_chart key None here holds is stands = absurd (let none = is in cc)
has_chart key (Some holding) here holds is stands = is_there holding.chart
    (λ none. true≢false (sym (holds.cancelled.0 none) ∙ ap (λ (x : Held). x.cancelled) (some_is is) ∙ stands))
  where
    is_there : (o : Option CellValue) → o ≢ None → IsSome o
    is_there None h = absurd (h refl)
    is_there (Some chart) h = refl

-- the chart of what is held is closed
pub closed-chart : (key : List ℕ) (before : Option Holding) → IfSome before (HasClosedChart key) →
    IfSome (chart_of before) IsClosed
closed-chart key None h = tt
closed-chart key (Some here) h = h

-- what is live has a closed chart
pub closed-held-if : ((key : List ℕ) (files : List (List ℕ)) → IsUpdateSequence key files → IfSome (rebuilt files) IsClosed)
    → (key : List ℕ) (before : Option Holding) → WasLive key before → IfSome before (HasClosedChart key)
closed-held-if closed key None h = tt
closed-held-if closed key (Some here) h = closed-before closed key (Some here) h

-- ---- what was judged

-- the laws of update sequences
pub record Holds : Type 0 where
  pub held : (key : List ℕ) (files : List (List ℕ)) → IsUpdateSequence key files → (held : Held) ×
      (held_by files ≡ Some held) × IsHolding key (record { held = held; files = files; chart = rebuilt files })
  pub closed : (key : List ℕ) (files : List (List ℕ)) → IsUpdateSequence key files → IfSome (rebuilt files) IsClosed

pub may-build : (key : List ℕ) (before : Option Holding) (dataset : DatasetValue) (effect : Effect) →
    IsDataset dataset → IfSome before (IsHolding key) → IfSome before (HasClosedChart key) →
    judged (held_of before) dataset ≡ Ok effect → MayBuild (chart_of before) effect dataset
may-build key before dataset Replace is holds closed judges =
    let says = effect_says (held_of before) dataset Replace judges in
    record {
      stands = λ _. stands_by_base dataset is says;
      base = λ _. says;
      update = λ e. absurd cc;
      there = λ e. absurd cc;
      closed = closed-chart key before closed;
    }
may-build key before dataset Extend is holds closed judges =
    let says = effect_says (held_of before) dataset Extend judges in
    record {
      stands = λ _. says.stands;
      base = λ e. absurd cc;
      update = λ _. says.update;
      there = λ _. has_chart key before says.here holds says.is says.lives;
      closed = closed-chart key before closed;
    }
may-build key before dataset Cancel is holds closed judges = record {
  stands = λ other. absurd (other refl);
  base = λ e. absurd cc;
  update = λ e. absurd cc;
  there = λ e. absurd cc;
  closed = closed-chart key before closed;
}

-- what is put in, where the chart is built
pub state_by_effect-by : (state : StateValue) (dataset : DatasetValue) (file : List ℕ) (effect : Effect) (held : Held)
    (chart : Option CellValue) → chart_after (chart_of (map.get state.cells dataset.header.key)) effect dataset ≡ Ok chart
    → held ≡ held_after (map.get state.cells dataset.header.key) effect dataset.header
    → state_by_effect state dataset file (map.get state.cells dataset.header.key) effect ≡ store_within
    (map.insert state.cells dataset.header.key (cell_after (map.get state.cells dataset.header.key) effect held chart file))
state_by_effect-by state dataset file effect held chart builds numbers =
    ap (λ (r : Result (Option CellValue) Refusal). r >>= (λ c. store_within (map.insert state.cells dataset.header.key
    (cell_after (map.get state.cells dataset.header.key) effect
    (held_after (map.get state.cells dataset.header.key) effect dataset.header) c file)))) builds
    ∙ ap (λ (h : Held). store_within (map.insert state.cells dataset.header.key
    (cell_after (map.get state.cells dataset.header.key) effect h chart file))) (sym numbers)

-- ---- by what the calls ensure

-- the chart that is held, as it is found
pub chart-found : (cells now : HoldingsByKey) (key own : List ℕ) (before : Option Holding) (chart : Option CellValue) →
    chart ≡ chart_of before → before ≡ map.get now key → now ≡ cells → key ≡ own → chart ≡ chart_of (map.get cells own)
chart-found cells now key own before chart is found shown keyed =
    is ∙ ap chart_of (found ∙ ap (λ (m : HoldingsByKey). map.get m key) shown ∙ ap (map.get cells) keyed)

module _ (state : StateValue) (dataset : DatasetValue) (file : List ℕ) (effect : Effect) (held : Held)
    (chart : Option CellValue) (key : List ℕ) (keyed : key ≡ dataset.header.key)
    (numbers : held ≡ held_after (map.get state.cells dataset.header.key) effect dataset.header)
    (builds : chart_after (chart_of (map.get state.cells dataset.header.key)) effect dataset ≡ Ok chart) where
  pub held-by : (laws : Builds) → IfSome (map.get state.cells dataset.header.key) (IsHolding dataset.header.key) →
      data_set_in file ≡ Ok dataset → IsFileLength (length file) →
      judged (held_of (map.get state.cells dataset.header.key)) dataset ≡ Ok effect →
      IsKeepable key (cell_after (map.get state.cells key) effect held chart file)
  held-by laws holds reads short judges =
      subst (λ (k : List ℕ). IsKeepable k (cell_after (map.get state.cells k) effect held chart file)) (sym keyed)
      (subst (λ (h : Held). IsKeepable dataset.header.key
      (cell_after (map.get state.cells dataset.header.key) effect h chart file)) (sym numbers)
      (next-held laws (map.get state.cells dataset.header.key) dataset file effect chart holds reads short judges builds))

  pub state_by_effect-in : (r : Result Next TakeFault)
      → GivesNextState r state (store_within (map.insert state.cells key
      (cell_after (map.get state.cells key) effect held chart file))) →
      GivesNextState r state (state_by_effect state dataset file (map.get state.cells dataset.header.key) effect)
  state_by_effect-in r gives =
      subst (GivesNextState r state)
      (ap (λ (k : List ℕ). store_within (map.insert state.cells k
      (cell_after (map.get state.cells k) effect held chart file))) keyed
      ∙ sym (state_by_effect-by state dataset file effect held chart builds numbers)) gives

-- the names that are told
pub changed-in : (r : Result Next TakeFault) (before chart : Option CellValue) (changed : List Name) →
    IfOk r (λ next. next.changed ≡ changed) → IfOk r (λ next. chart_of next.holding ≡ chart) →
    AreChanged before chart changed → IfOk r (λ next. AreChanged before (chart_of next.holding) next.changed)
changed-in (Ok next) before chart changed named found are =
    subst (λ (c : Option CellValue). AreChanged before c next.changed) (sym found)
    (subst (AreChanged before chart) (sym named) are)
changed-in (Err fault) before chart changed named found are = tt
