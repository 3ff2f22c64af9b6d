-- The calls of a refresh, and what they make of what a panel shows.
use Rattle.std.specs.Prelude.{ℕ, ◌+◌, ◌≤◌, min, nat_eq, if◌then◌else◌, ◌≡◌, ◌⊎◌, Bool, not, List, [], ◌∷◌, ◌++◌, map}
use Rattle.std.specs.Prelude.{Option, Some, None, refl}
use Rattle.std.proofs.Common.{inl, inr}
use Rattle.std.specs.List.{filter, filter_map, slice_get}
use Rattle.std.specs.Option.{option_map}
use Rattle.std.specs.Coded.{Coded, code_by, coded×, coded⊎, prop_coded, Unit-prop}
use Rattle.std.specs.FinMap as finite
use Rattle.chart_model.specs.declared.drawing.Block.{Block}
use Rattle.chart_model.specs.declared.drawing.PanelKey.{PanelKey}
use Rattle.chart_model.specs.contracts.drawing.Block as block
use Rattle.chart_ports.specs.Count.{LAST}
use Rattle.panel_port.specs.PanelKey.{panel_key_cmp, panel_key_code}
use Rattle.panel_port.specs.Panel.{Scene as Blocks, told_where, with_block, without_block}
use Rattle.scene_sync.specs.Same.{same_blocks}
use Rattle.scene_sync.specs.declared.call.Call.{Call}
use Rattle.scene_sync.specs.declared.call.Call.TheVariants.{Clear, Put, Take}

-- a call of a panel
pub data PanelCall : Type 0 where
  clear : PanelCall
  put : PanelKey → Block → PanelCall
  take : PanelKey → PanelCall

-- a call is stored as the value that it carries
abbrev pub PartsOfCall : Type 0
PartsOfCall = Unit {0} ⊎ ((PanelKey × Block) ⊎ PanelKey)

abbrev parts_of : PanelCall → PartsOfCall
parts_of clear = inl tt
parts_of (put key block) = inr (inl (key, block))
parts_of (take key) = inr (inr key)

abbrev made_of : PartsOfCall → PanelCall
made_of (inl _) = clear
made_of (inr (inl (key, block))) = put key block
made_of (inr (inr key)) = take key

pub made_of-parts_of : (call : PanelCall) → made_of (parts_of call) ≡ call
made_of-parts_of clear = refl
made_of-parts_of (put key block) = refl
made_of-parts_of (take key) = refl

abbrev pub call_code : Coded PanelCall
call_code =
    code_by PartsOfCall
    (coded⊎ (prop_coded Unit-prop) (coded⊎ (coded× panel_key_code block.the_row.coded) panel_key_code))
    parts_of made_of made_of-parts_of

-- what is told of a panel after a call that succeeds
abbrev pub after_call : Bool → PanelCall → Option Blocks → Option Blocks
after_call tells clear shown = told_where tells finite.empty
after_call tells (put key block) shown = with_block key block shown
after_call tells (take key) shown = without_block key shown

-- the same after calls in order
abbrev pub after_calls : Bool → List PanelCall → Option Blocks → Option Blocks
after_calls tells [] shown = shown
after_calls tells (call ∷ calls) shown = after_calls tells calls (after_call tells call shown)

-- what has to be called for a key: the target's block is put, and where it has none, what is shown is taken out
abbrev pub call_at : PanelKey → Option Block → PanelCall
call_at key (Some block) = put key block
call_at key None = take key

abbrev pub call_for : Blocks → PanelKey → PanelCall
call_for target key = call_at key (finite.get target key)

-- one map has another block under the key than the other, or one of them has none
abbrev pub differs_at : Blocks → Blocks → PanelKey → Bool
differs_at shown target key = not (same_blocks (finite.get shown key) (finite.get target key))

-- of each key whose blocks differ, its call
abbrev pub changes : Blocks → Blocks → finite.FinMap panel_key_cmp PanelCall
changes shown target =
    let keys = filter (differs_at shown target) (finite.keys shown ++ finite.keys target) in
    finite.from_entries (map (λ key. (key, call_for target key)) keys)

-- these calls in the keys' order
abbrev pub calls_between : Blocks → Blocks → List PanelCall
calls_between shown target = finite.values (changes shown target)

-- the calls of a refresh: where it isn't known what is shown, all is taken out and each block put
abbrev pub calls_for : Option Blocks → Blocks → List PanelCall
calls_for None target = clear ∷ map (λ entry. put entry.0 entry.1) (finite.entries target)
calls_for (Some shown) target = calls_between shown target

-- the call that a kept one stands for, where the target has an entry at its place
abbrev pub call_in : Blocks → Call → Option PanelCall
call_in target Clear = Some clear
call_in target (Put place) = option_map (λ entry. put entry.0 entry.1) (slice_get (finite.entries target) place)
call_in target (Take key) = Some (take key)

abbrev pub calls_in : Blocks → List Call → List PanelCall
calls_in target = filter_map (call_in target)

-- kept calls stand for these, each for one
abbrev pub StandFor : Blocks → List Call → List PanelCall → Type 0
StandFor target kept calls = map (call_in target) kept ≡ map Some calls

-- the call that is kept for a key, where the target has the block at the place, or none
abbrev pub kept_at : PanelKey → ℕ → Option Block → Call
kept_at key place (Some block) = Put place
kept_at key place None = Take key

-- the count after so many calls more, each of which adds one: it stays once it is at its last value
abbrev pub more_calls : ℕ → ℕ → ℕ
more_calls more count = if nat_eq more 0 then count else min (count + more) LAST

-- at most so many calls more were counted
abbrev pub CountsUpTo : ℕ → ℕ → ℕ → Type 0
CountsUpTo most before now = (made : ℕ) × (made ≤ most) × (now ≡ more_calls made before)
