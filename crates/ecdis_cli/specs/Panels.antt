-- Panels as contracts see them, and what the replies of steps tell of them.
use Rattle.std.specs.Prelude.{◌≡◌, ℕ, Bool, IsTrue, List, [], ◌∷◌, map, Option, Some, None, IfSome}
use Rattle.std.specs.declared.alloc.Global.{Global}
use Rattle.std.specs.declared.dyn_box.DynBox.{DynBox}
use Rattle.panel_port.specs.Panel.{Scene as Blocks, summary_of}
use Rattle.panel_port.specs.declared.panel.Panel.{Ghosts}
use Rattle.panel_port.specs.declared.summary.Summary.{Summary}
use Rattle.panel_scenes.specs.InStep.{AreCounted, AreInStep, Start, starts_of}
use Rattle.panel_scenes.specs.Numbered.{numbered}
use Rattle.panel_scenes.specs.Scene.{SceneValue}
use Rattle.script_reader.specs.declared.reply.Reply.{Reply}
use Rattle.script_reader.specs.declared.reply.Reply.TheVariants as replies
use Rattle.session_core.specs.Model.{Model}
use Rattle.session_core.specs.Outside.{AreRisen, starts_after}
use Rattle.ecdis_cli.specs.Step.{Step}

-- whether it tells its scene, and what it tells; its counts of faults and of calls; and the numbers of its summary
pub record PanelValue : Type 0 where
  pub tells : Bool
  pub scene : Option Blocks
  pub faults : ℕ
  pub calls : ℕ
  pub numbers : Summary

-- how a panel in a box is seen, of whatever kind it is
abbrev pub Members : (X : Type 0) → (X → Type 0) → Type 1
Members X V = (panel : DynBox X Global V) → Ghosts (V panel.vtable)

abbrev pub panel_value : {X : Type 0} {V : X → Type 0} → Members X V → DynBox X Global V → PanelValue
panel_value members panel = record {
  tells = (members panel).tells panel.value;
  scene = (members panel).scene panel.value;
  faults = (members panel).faults panel.value;
  calls = (members panel).calls panel.value;
  numbers = (members panel).numbers panel.value;
}

abbrev pub values_of : {X : Type 0} {V : X → Type 0} → Members X V → List (DynBox X Global V) → List PanelValue
values_of members = map (panel_value members)

-- ---- what is known of them

-- what was known of panels when the session began
abbrev pub starts_at : List PanelValue → List Start
starts_at = starts_of (λ panel. panel.tells) (λ panel. panel.faults) (λ panel. panel.calls) (λ panel. panel.numbers)

-- Each panel is in step with its scene, and what was counted of its paintings tells how often it was called.
pub record AreAsKnown (starts : List Start) (panels : List PanelValue) (scenes : List SceneValue) : Type 0 where
  pub in_step : AreInStep (λ panel. panel.tells) (λ panel. panel.scene) (λ panel. panel.faults) starts panels scenes
  pub counted : AreCounted (λ panel. panel.faults) (λ panel. panel.calls) (λ panel. panel.numbers) starts panels scenes

-- each has counted a fault for each of its paintings that failed
abbrev pub HaveCountedFailures : List Start → List PanelValue → List SceneValue → Type 0
HaveCountedFailures = AreRisen (λ panel. panel.faults)

-- so it was before, and none of their counts fell
abbrev pub KeepFailures : List SceneValue → List PanelValue → List PanelValue → Type 0
KeepFailures scenes before now =
    (starts : List Start) → AreAsKnown starts before scenes → HaveCountedFailures starts now scenes

-- ---- what is told of them

-- The numbers of a panel that tells are those of the blocks that its scene has, where these are known. As long as none of
-- its paintings failed or made a call, they are those that it began with.
pub record AreNumbersOf (start : Start) (scene : SceneValue) (told : Summary) : Type 0 where
  pub shown : IsTrue start.tells → IfSome scene.shown (λ blocks. told ≡ summary_of blocks)
  pub first : scene.failures ≡ 0 → scene.made ≡ 0 → told ≡ start.numbers

-- so it is with a reply that tells the numbers of a panel
abbrev pub TellsNumbers : List Start → List SceneValue → Option Reply → Type 0
TellsNumbers starts scenes (Some (replies.Panel k blocks items)) =
    IfSome (numbered k starts) (λ start. IfSome (numbered k scenes)
    (λ scene. AreNumbersOf start scene (record { blocks = blocks; items = items })))
TellsNumbers starts scenes other = Unit {0}

-- what was known when the session began of the panels that are left, behind a reply and behind steps

abbrev pub starts_behind : List Start → Option Reply → List Start
starts_behind starts None = starts
starts_behind starts (Some reply) = starts_after reply starts

abbrev pub starts_left : List Start → List Step → List Start
starts_left starts [] = starts
starts_left starts (step ∷ steps) = starts_left (starts_behind starts step.reply) steps

-- so it is with each step's reply
abbrev pub NumbersAreTold : List Start → Model → List Step → Type 0
NumbersAreTold starts model [] = Unit {0}
NumbersAreTold starts model (step ∷ steps) =
    TellsNumbers starts model.scenes step.reply × NumbersAreTold (starts_behind starts step.reply) step.model steps
