-- Steps that are counted, one after another.
use Rattle.std.proofs.Common.{◌≡◌, ℕ, ◌+◌, ◌≤◌, Bool, false, cond, List, [], ◌∷◌, ◌++◌, length, refl, sym, ◌∙◌, ap}
use Rattle.std.proofs.Common.{subst, arith, inl, inr, ⊎_elim, length-append}
use Rattle.std.specs.Prelude.{Some, None, Result, Ok, Err}
use Rattle.std.specs.FinMap as finite
use Rattle.std.specs.FinMap.{find}
use Rattle.std.specs.List.{Contains}
use Rattle.std.specs.List.Sorted.{IsStrictlySortedBy}
use Rattle.std.specs.Option.{option_and_then}
use Rattle.std.specs.Ordering.{eq_by_cmp, is_eq}
use Rattle.std.specs.declared.cmp.Ordering.TheVariants.{Less, Equal, Greater}
use Rattle.chart_model.specs.Cell.{CellValue}
use Rattle.chart_model.specs.Keys.{key_cmp}
use Rattle.chart_model.specs.State.{StateValue}
use Rattle.chart_model.proofs.Keys.{key_cmp-IsAntisymmetric}
use Rattle.chart_model.specs.declared.name.Name.{Name}
use Rattle.chart_model.specs.declared.state.Holding.{Holding}
use Rattle.chart_store.specs.Loaded.{HoldingsByKey}
use Rattle.script_reader.specs.declared.reply.Reply.{Reply}
use Rattle.session_core.specs.Held.{chart_of}
use Rattle.session_core.specs.Model.{Model}
use Rattle.session_core.specs.Replied.{Turn}
use Rattle.session_core.specs.Session.{GivesTurn, with_others}
use Rattle.session_core.specs.Steps.{TakesAtMost}
use Rattle.session_core.specs.declared.fault.TurnFault.{TurnFault}
use Rattle.session_core.specs.declared.fault.TurnFault.TheVariants.{DeskFault, NoMemory}
use Rattle.ecdis_cli.specs.Counted.{StepsAreCounted}
use Rattle.ecdis_cli.specs.Script.{model_after}
use Rattle.ecdis_cli.specs.Step.{Step}

-- ---- one after another

-- from a count that is no less
pub counted-from : (model : Model) (steps : List Step) (a b c : ℕ) → b ≤ a → StepsAreCounted model steps b c
    → StepsAreCounted model steps a c
counted-from model [] a b c h x = omega (arith, h, x)
counted-from model (step ∷ steps) a b c h (between, y, more) = (
  between,
  record { key = y.key; names = y.names; changed = y.changed; at_most = omega (arith, h, y.at_most) },
  more,
)

pub counted-then : (model : Model) (steps others : List Step) (a b c : ℕ) → StepsAreCounted model steps a b
    → StepsAreCounted (model_after model steps) others b c → StepsAreCounted model (steps ++ others) a c
counted-then model [] others a b c x y = counted-from model others a b c x y
counted-then model (step ∷ steps) others a b c (between, x, more) y =
    (between, x, counted-then step.model steps others between b c more y)

pub counted-one : (model : Model) (step : Step) (a b : ℕ) → TakesAtMost step.most model.state step.model.state a b
    → StepsAreCounted model (step ∷ []) a b
counted-one model step a b x = (b, x, omega arith)

-- ---- a key under which nothing is held

-- longer than the keys of the entries
abbrev longer : {X : Type 0} → List (List ℕ × X) → List ℕ
longer [] = []
longer (entry ∷ entries) = 0 ∷ (entry.0 ++ longer entries)

untied : (key other : List ℕ) → length other + 1 ≤ length key → eq_by_cmp key_cmp key other ≡ false
untied key other h =
    elim (key_cmp key other) as (λ order. key_cmp key other ≡ order → is_eq order ≡ false) [
      | Less ↦ λ e. refl
      | Equal ↦ λ e. absurd (omega (arith, h, ap length (key_cmp-IsAntisymmetric key other e)))
      | Greater ↦ λ e. refl
    ] refl

found-none : {X : Type 0} (entries : List (List ℕ × X)) (key : List ℕ) → length (longer entries) ≤ length key
    → find key_cmp key entries ≡ None
found-none [] key h = refl
found-none (entry ∷ entries) key h =
    let whole = length-append entry.0 (longer entries) in
    let apart : eq_by_cmp key_cmp key entry.0 ≡ false = untied key entry.0 (omega (arith, h, whole)) in
    ap (λ (tied : Bool). cond tied (Some entry.1) (find key_cmp key entries)) apart
    ∙ found-none entries key (omega (arith, h, whole))

held-none : (cells : HoldingsByKey) (key : List ℕ) → length (longer (finite.entries cells)) ≤ length key
    → chart_of cells key ≡ None
held-none cells key h =
    ap (option_and_then (λ (here : Holding). here.chart))
    (finite.get-entries cells key ∙ found-none (finite.entries cells) key h)

-- ---- a step

-- what is counted beside the names whose records differ may be counted of any step
pub counted-within : (most : ℕ) (before now : StateValue) (a b : ℕ) → b ≤ a + most → TakesAtMost most before now a b
unfolding IsStrictlySortedBy
counted-within most before now a b h =
    let longer_before : List ℕ = longer (finite.entries before.cells) in
    let longer_now : List ℕ = longer (finite.entries now.cells) in
    let key : List ℕ = longer_before ++ longer_now in
    let whole = length-append longer_before longer_now in
    let same : chart_of before.cells key ≡ chart_of now.cells key
    = held-none before.cells key (omega (arith, whole)) ∙ sym (held-none now.cells key (omega (arith, whole))) in
    record {
      key = key;
      names = [];
      changed = record {
        rising = tt;
        exact = λ name. (
          λ there. absurd (let below = there.1 in omega arith),
          λ differ. absurd (⊎_elim
              (λ vectors. vectors (ap (option_and_then (λ (cell : CellValue). finite.get cell.vectors name)) same))
              (λ features. features (ap (option_and_then (λ (cell : CellValue). finite.get cell.features name)) same))
              differ),
        );
      };
      at_most = omega (arith, h);
    }

-- where nothing was changed no record differs
unchanged-within : (most : ℕ) (state : StateValue) (a b : ℕ) → TakesAtMost most state state a b → b ≤ a + most
unchanged-within most state a b x =
    elim x.names as (λ (names : List Name). x.names ≡ names → b ≤ a + most) [
      | [] ↦ λ e. omega (arith, x.at_most, ap length e)
      | name ∷ names ↦ λ e.
          let there : Contains x.names name
          = subst (λ (l : List Name). Contains l name) (sym e) (0, omega arith, refl) in
          absurd (⊎_elim (λ vectors. vectors refl) (λ features. features refl) ((x.changed.exact name).0 there))
    ] refl

-- of a turn that isn't told, as it was to be told
counted-stopped : (most : ℕ) (before now left : StateValue) (a b : ℕ) → now ≡ before → TakesAtMost most before now a b
    → TakesAtMost most before left a b
counted-stopped most before now left a b same x =
    counted-within most before left a b
    (unchanged-within most before a b (subst (λ (s : StateValue). TakesAtMost most before s a b) same x))

counted-told : (most : ℕ) (before now left : Model) (a b : ℕ) → left ≡ now → TakesAtMost most before.state now.state a b
    → TakesAtMost most before.state left.state a b
counted-told most before now left a b is x =
    subst (λ (m : Model). TakesAtMost most before.state m.state a b) (sym is) x

pub counted-turn : (result : Result Reply TurnFault) (before now : Model) (turn : Turn) (most a b : ℕ)
    → GivesTurn result before now turn → TakesAtMost most before.state now.state a b
    → TakesAtMost most before.state turn.model.state a b
counted-turn (Ok reply) before now turn most a b gives x = counted-told most before now turn.model a b gives.1 x
counted-turn (Err DeskFault) before now turn most a b same x =
    counted-stopped most before.state now.state turn.model.state a b same x
counted-turn (Err NoMemory) before now turn most a b (inl same) x =
    counted-stopped most before.state now.state turn.model.state a b (ap (λ (m : Model). m.state) same) x
counted-turn (Err NoMemory) before now turn most a b (inr is) x =
    counted-told most before now (with_others turn.model now) a b is x
