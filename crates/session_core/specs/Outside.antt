-- What a turn gets from outside, and what becomes of panels in it.
use Rattle.std.specs.Prelude.{◌≡◌, ℕ, Bool, true, List, Option, Some, None, IfSome, Result, IfOk, OnErr}
use Rattle.std.specs.declared.alloc.Global.{Global}
use Rattle.std.specs.declared.dyn_box.DynBox.{DynBox}
use Rattle.chart_ports.specs.Count.{Rose, RoseBy}
use Rattle.panel_port.specs.Panel.{Scene as Blocks, summary_of}
use Rattle.panel_port.specs.declared.panel.Panel.{Ghosts}
use Rattle.panel_port.specs.declared.summary.Summary.{Summary}
use Rattle.panel_scenes.specs.InStep.{AreCounted, AreInStep, Start}
use Rattle.panel_scenes.specs.Numbered.{AllZip3, IsOfNumbered, SameOthers, numbered, without_numbered}
use Rattle.panel_scenes.specs.Scene.{SceneValue}
use Rattle.script_reader.specs.declared.event.Event.{Event}
use Rattle.script_reader.specs.declared.event.Event.TheVariants as asks
use Rattle.script_reader.specs.declared.reply.Reply.{Reply}
use Rattle.script_reader.specs.declared.reply.Reply.TheVariants as replies
use Rattle.session_core.specs.Fetch.{Fetches}

-- whether a panel tells its scene, and its count of faults, by the members of all kinds of panels
abbrev pub tells_of : {X : Type 0} {V : X → Type 0} → ((panel : DynBox X Global V) → Ghosts (V panel.vtable))
    → DynBox X Global V → Bool
tells_of members panel = (members panel).tells panel.value

abbrev pub faults_of : {X : Type 0} {V : X → Type 0} → ((panel : DynBox X Global V) → Ghosts (V panel.vtable))
    → DynBox X Global V → ℕ
faults_of members panel = (members panel).faults panel.value

-- what the shelf answers to fetches, whether the panel fails that is painted, and the numbers of the one that is asked
pub record FromOutside : Type 0 where
  pub fetches : Fetches
  pub painting_failed : Bool
  pub numbers : Summary

-- The panel of the line is asked for its numbers, which are those of its scene where that is told; and one that is
-- painted fails only where it counts a fault.
pub record AreOfPanels {P : Type 0} (scene : P → Option Blocks) (faults : P → ℕ) (numbers : P → Summary) (event : Event)
    (before now : List P) (outside : FromOutside) : Type 0 where
  pub asked : (k : ℕ) → event ≡ asks.Panel k → IfSome (numbered k before) (λ panel. outside.numbers ≡ numbers panel)
  pub shown : (k : ℕ) → event ≡ asks.Panel k
      → IfSome (numbered k before) (λ panel. IfSome (scene panel) (λ blocks. outside.numbers ≡ summary_of blocks))
  pub failed : (k n : ℕ) → event ≡ asks.Paint k n → outside.painting_failed ≡ true
      → IsOfNumbered k (λ panel panel'. Rose (faults panel) (faults panel')) before now

-- all panels but the one of this number, where there is one
abbrev pub without_panel : {P : Type 0} → ℕ → List P → Option P → List P
without_panel k panels None = panels
without_panel k panels (Some panel) = without_numbered k panels

-- a painting leaves each other panel as it was, a panel that is closed is taken out, and no other line touches panels
abbrev pub KeepsOtherPanels : {P : Type 0} → Event → List P → List P → Type 0
KeepsOtherPanels (asks.Paint k n) before now = SameOthers k before now
KeepsOtherPanels (asks.ClosePanel k) before now = now ≡ without_panel k before (numbered k before)
KeepsOtherPanels other before now = now ≡ before

-- what was known of panels when the session began, once a line is replied to: a panel that was closed is forgotten
abbrev pub starts_after : Reply → List Start → List Start
starts_after (replies.ClosePanel k) starts = without_numbered k starts
starts_after other starts = starts

-- each panel has counted each painting that failed
abbrev pub AreRisen : {P : Type 0} → (P → ℕ) → List Start → List P → List SceneValue → Type 0
AreRisen faults = AllZip3 (λ start panel kept. RoseBy kept.failures start.faults (faults panel))

-- What becomes of panels in a turn. Where there is a reply they stay in step with what is known of them, and what was
-- counted of their paintings tells how often they were called; where there is none, each has still counted each
-- painting that had failed before.
pub record KeepsPanels {P E : Type 0} (tells : P → Bool) (scene : P → Option Blocks) (faults calls : P → ℕ)
    (numbers : P → Summary) (event : Event) (result : Result Reply E) (before now : List P)
    (scenes scenes' : List SceneValue) : Type 0 where
  pub others : KeepsOtherPanels event before now
  pub in_step : IfOk result (λ reply. (starts : List Start) → AreInStep tells scene faults starts before scenes
      → AreInStep tells scene faults (starts_after reply starts) now scenes')
  pub counted : IfOk result (λ reply. (starts : List Start) → AreInStep tells scene faults starts before scenes
      → AreCounted faults calls numbers starts before scenes
      → AreCounted faults calls numbers (starts_after reply starts) now scenes')
  pub risen : OnErr result ((starts : List Start) → AreInStep tells scene faults starts before scenes
      → AreRisen faults starts now scenes)
