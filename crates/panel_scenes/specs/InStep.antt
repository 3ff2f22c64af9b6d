-- What holds of panels and their scenes, whatever calls were made of them since the session began.
use Rattle.std.specs.Prelude.{ℕ, ◌≡◌, Bool, IsTrue, List, map, Option}
use Rattle.chart_ports.specs.Count.{IsSteady, RoseBy}
use Rattle.panel_port.specs.Panel.{Scene as Blocks}
use Rattle.panel_port.specs.declared.summary.Summary.{Summary}
use Rattle.scene_sync.specs.Calls.{more_calls}
use Rattle.scene_sync.specs.Scene.{Agrees}
use Rattle.panel_scenes.specs.Numbered.{AllZip3}
use Rattle.panel_scenes.specs.Scene.{SceneValue}

-- what was known of a panel when the session began: whether it tells its scene, its counts of faults and calls, and the
-- numbers of its summary
pub record Start : Type 0 where
  pub tells : Bool
  pub faults : ℕ
  pub calls : ℕ
  pub numbers : Summary

-- of each panel
abbrev pub starts_of : {P : Type 0} → (P → Bool) → (P → ℕ) → (P → ℕ) → (P → Summary) → List P → List Start
starts_of tells faults calls numbers =
    map (λ panel. record {
      tells = tells panel;
      faults = faults panel;
      calls = calls panel;
      numbers = numbers panel;
    })

-- A panel tells its scene as when the session began, shows what its scene says where that is known, and has counted
-- each painting that failed.
pub record IsInStep (start : Start) (tells : Bool) (told : Option Blocks) (faults : ℕ) (kept : SceneValue) : Type 0
  where
    pub same : tells ≡ start.tells
    pub agrees : IsTrue tells → Agrees kept.shown told
    pub rose : RoseBy kept.failures start.faults faults

-- so of each panel
abbrev pub AreInStep : {P : Type 0}
    → (P → Bool) → (P → Option Blocks) → (P → ℕ) → List Start → List P → List SceneValue → Type 0
AreInStep tells scene faults =
    AllZip3 (λ start panel kept. IsInStep start (tells panel) (scene panel) (faults panel) kept)

-- A panel on which no fault rose was called as often as its paintings told. One of which no painting failed and none
-- made a call has the numbers that it had when the session began.
pub record IsCounted (start : Start) (faults calls : ℕ) (numbers : Summary) (kept : SceneValue) : Type 0 where
  pub counted : IsSteady start.faults faults → calls ≡ more_calls kept.made start.calls
  pub first : kept.failures ≡ 0 → kept.made ≡ 0 → numbers ≡ start.numbers

-- so each panel
abbrev pub AreCounted : {P : Type 0}
    → (P → ℕ) → (P → ℕ) → (P → Summary) → List Start → List P → List SceneValue → Type 0
AreCounted faults calls numbers =
    AllZip3 (λ start panel kept. IsCounted start (faults panel) (calls panel) (numbers panel) kept)
