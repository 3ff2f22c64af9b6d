-- The function gives the state that bytes spell.
use Rattle.std.proofs.Common.{◌≡◌, ℕ, Bool, cond, List, [], ◌++◌, length, Option, Some, None, sym, ap, subst, ◌∙◌, append-nil}
use Rattle.std.specs.Prelude.{◌==◌}
use Rattle.std.specs.FinMap as map
use Rattle.std.specs.FinMap.{FinMap}
use Rattle.std.proofs.lemmas.Bool.{eqb-true}
use Rattle.std.proofs.lemmas.List.{nil_from_length}
use Rattle.chart_model.specs.declared.state.Holding.{Holding}
use Rattle.chart_model.specs.Keys.{key_cmp}
use Rattle.chart_model.specs.State.{IsHolding, IsState, StateValue}
use Rattle.chart_model.proofs.Keys.{key_cmp-total, key_cmp-IsAntisymmetric}
use Rattle.page_parts.specs.declared.fault.PageFault.{PageFault}
use Rattle.page_parts.specs.declared.fault.PageFault.TheVariants.{NoMemory, Unspelled}
use Rattle.page_parts.specs.Reader.{Lacks, ◌>>=◌}
use Rattle.page_parts.specs.Lists.{AreInRange, rising_entries, rising_entries_at}
use Rattle.page_parts.proofs.ReadBehind.{bind_some, given_where}
use Rattle.chart_pages.specs.Cells.{IsCellInRange, cell, cell_at}
use Rattle.chart_pages.specs.Grammar.{Spells, spelling}
use Rattle.chart_pages.specs.Reading.{state_in, state_of}
use Rattle.chart_pages.proofs.Entries.{all_of_each, each_of_all, facts_of, range_of, range_with}
use Rattle.chart_pages.proofs.HeldRead.{KeysAreTested}
use Rattle.chart_pages.proofs.CellsRead.{IsCellEntry, cells_read}

abbrev Cells : Type 0
Cells = FinMap key_cmp Holding

abbrev pub AreCells : Cells → Type 0
AreCells cells = AreInRange IsCellEntry (map.entries cells)

abbrev CellIs : List ℕ × Holding → Type 0
CellIs entry = IsHolding entry.0 entry.1

-- ---- what each cell has, by the keys

cells_range : (cells : Cells) → AreCells cells → AreInRange IsCellInRange (map.entries cells)
cells_range cells h =
    range_of IsCellEntry IsCellInRange CellIs (λ e h. h.range) (λ e h. h.is) (λ e range is. record { range = range; is = is }) (map.entries cells) h

pub cells_held : (cells : Cells) → AreCells cells → IsState (state_of cells)
cells_held cells h = record {
  cells =
      each_of_all key_cmp-total key_cmp-IsAntisymmetric IsHolding cells
      (facts_of IsCellEntry IsCellInRange CellIs (λ e h. h.range) (λ e h. h.is) (λ e range is. record { range = range; is = is }) (map.entries cells) h);
}

cells_are : (cells : Cells) → AreInRange IsCellInRange (map.entries cells) → IsState (state_of cells) → AreCells cells
cells_are cells range held =
    range_with IsCellEntry IsCellInRange CellIs (λ e h. h.range) (λ e h. h.is) (λ e range is. record { range = range; is = is }) (map.entries cells) range
    (all_of_each key_cmp-total key_cmp-IsAntisymmetric IsHolding cells held.cells)

-- ---- the law

pub found : KeysAreTested → (bytes : List ℕ) (state : StateValue) → state_in bytes ≡ Some state → Spells bytes state
unfolding spelling state_in
found tested bytes state e =
    let a = bind_some (rising_entries_at key_cmp cell_at bytes) (λ (a : Cells × List ℕ). cond (length a.1 == 0) (Some (state_of a.0)) None) state e in
    let given = given_where (length a.0.1 == 0) (state_of a.0.0) state a.2 in
    let cells : AreCells a.0.0 = (cells_read tested).ranged bytes a.0.0 a.0.1 a.1 in
    let nothing : a.0.1 ≡ [] = nil_from_length a.0.1 (eqb-true (length a.0.1) 0 given.0) in
    let whole : bytes ≡ rising_entries cell a.0.0 =
    (cells_read tested).spelled bytes a.0.0 a.0.1 a.1 ∙ ap (λ (l : List ℕ). rising_entries cell a.0.0 ++ l) nothing ∙ append-nil (rising_entries cell a.0.0) in
    subst (λ (s : StateValue). Spells bytes s) given.1 (record { spelled = whole; held = cells_held a.0.0 cells; in_range = cells_range a.0.0 cells })

pub given : KeysAreTested → (bytes : List ℕ) (state : StateValue) → Spells bytes state → state_in bytes ≡ Some state
unfolding spelling state_in
given tested bytes state spells =
    let cells : AreCells state.cells = cells_are state.cells spells.in_range spells.held in
    let read : rising_entries_at key_cmp cell_at bytes ≡ Some (state.cells, []) =
    ap (λ (l : List ℕ). rising_entries_at key_cmp cell_at l) (spells.spelled ∙ sym (append-nil (rising_entries cell state.cells)))
    ∙ (cells_read tested).again state.cells [] cells in
    ap (λ (found : Option (Cells × List ℕ)). found >>= λ a. cond (length a.1 == 0) (Some (state_of a.0)) None) read

state_is : (a b : StateValue) → Some a ≡ Some b → a ≡ b
state_is a b e = cc

pub once : KeysAreTested → (bytes : List ℕ) (a b : StateValue) → Spells bytes a → Spells bytes b → a ≡ b
once tested bytes a b one other = state_is a b (sym (given tested bytes a one) ∙ given tested bytes b other)

-- ---- what is read

pub state_lacked : (fault : PageFault) (bytes : List ℕ) → Lacks fault (rising_entries_at key_cmp cell_at bytes) → Lacks fault (state_in bytes)
unfolding state_in
state_lacked Unspelled bytes none = ap (λ (found : Option (Cells × List ℕ)). found >>= λ a. cond (length a.1 == 0) (Some (state_of a.0)) None) none
state_lacked NoMemory bytes none = tt

-- what is given of cells with bytes behind them, where there are none
abbrev given_if : Bool → Cells → Option StateValue
given_if ended cells = cond ended (Some (state_of cells)) None

pub state_read : (bytes : List ℕ) (cells : Cells) (rest : List ℕ) (ended : Bool) → rising_entries_at key_cmp cell_at bytes ≡ Some (cells, rest) → (length rest == 0) ≡ ended
    → state_in bytes ≡ given_if ended cells
unfolding state_in
state_read bytes cells rest ended read ends =
    ap (λ (found : Option (Cells × List ℕ)). found >>= λ a. cond (length a.1 == 0) (Some (state_of a.0)) None) read
    ∙ ap (λ (b : Bool). given_if b cells) ends

pub none_found : KeysAreTested → (bytes : List ℕ) → state_in bytes ≡ None → (state : StateValue) → ¬ Spells bytes state
none_found tested bytes none = λ state spells. let read = given tested bytes state spells in absurd (cc)
