-- What is refused of a panel, and what a painting answers and leaves.
use Rattle.std.specs.Prelude.{ℕ, ◌≡◌, Bool, true, false, if◌then◌else◌, List, Option, Some, None, is_some}
use Rattle.std.specs.Prelude.{Result, Ok, Err}
use Rattle.panel_port.specs.declared.summary.Summary.{Summary}
use Rattle.scene_sync.specs.Scene.{UnderWay, advanced, progress_of}
use Rattle.scene_sync.specs.declared.progress.Progress.{Progress}
use Rattle.panel_scenes.specs.declared.fault.PaintingFault.{PaintingFault}
use Rattle.panel_scenes.specs.declared.fault.PaintingFault.TheVariants.{Refused, NoMemory}
use Rattle.panel_scenes.specs.declared.fault.PanelRefusal.{PanelRefusal}
use Rattle.panel_scenes.specs.declared.fault.PanelRefusal.TheVariants.{NoPanel, NothingBegun, Failed, Busy}
use Rattle.panel_scenes.specs.Numbered.{numbered, with_numbered}
use Rattle.panel_scenes.specs.Scene.{SceneValue, failed_once, painted, stale}

-- ---- refusals

-- there is no panel of this number
abbrev pub panel_refusal : {X : Type 0} → ℕ → Option X → Option PanelRefusal
panel_refusal k None = Some (NoPanel k)
panel_refusal k (Some panel) = None

-- a refresh isn't begun while another one of that panel is under way
abbrev pub refresh_refusal : ℕ → Option SceneValue → Option PanelRefusal
refresh_refusal k None = Some (NoPanel k)
refresh_refusal k (Some scene) = if is_some scene.refresh then Some Busy else None

-- the summary of a panel, where there is one of this number
abbrev pub summary_at : ℕ → Option Summary → Result Summary PanelRefusal
summary_at k None = Err (NoPanel k)
summary_at k (Some summary) = Ok summary

-- ---- a painting

-- what it answers, and what it leaves
pub record Painting (S : Type 0) : Type 0 where
  pub answer : Result Progress PanelRefusal
  pub after : S

-- the painting of a panel, where a refresh is under way: so many calls are made, or the panel fails in one of them
abbrev pub painting_in : ℕ → ℕ → Bool → SceneValue → Option UnderWay → Painting SceneValue
painting_in k n fails scene None = record { answer = Err NothingBegun; after = scene }
painting_in k n fails scene (Some refresh) =
    if fails then record { answer = Err (Failed k); after = failed_once scene }
    else record { answer = Ok (progress_of (advanced n refresh)); after = painted n refresh scene }

abbrev pub painting_of : ℕ → ℕ → SceneValue → Bool → Painting SceneValue
painting_of k n scene fails = painting_in k n fails scene scene.refresh

-- the painting of the panel of this number, which leaves the scenes of all others
abbrev pub painting_at : ℕ → ℕ → List SceneValue → Bool → Option SceneValue → Painting (List SceneValue)
painting_at k n scenes fails None = record { answer = Err (NoPanel k); after = scenes }
painting_at k n scenes fails (Some scene) = record {
  answer = (painting_of k n scene fails).answer;
  after = with_numbered k (painting_of k n scene fails).after scenes;
}

abbrev pub painting_among : ℕ → ℕ → List SceneValue → Bool → Painting (List SceneValue)
painting_among k n scenes fails = painting_at k n scenes fails (numbered k scenes)

-- where memory ran out it isn't known what that panel shows
abbrev pub given_up_at : ℕ → List SceneValue → Option SceneValue → List SceneValue
given_up_at k scenes None = scenes
given_up_at k scenes (Some scene) = with_numbered k (stale scene) scenes

abbrev pub given_up : ℕ → List SceneValue → List SceneValue
given_up k scenes = given_up_at k scenes (numbered k scenes)

-- a refusal because the panel failed
abbrev pub is_failure : PanelRefusal → Bool
is_failure (Failed k) = true
is_failure (NoPanel k) = false
is_failure NothingBegun = false
is_failure Busy = false

-- the answer, and what is there now, are those of this painting
abbrev pub IsPainting : {S : Type 0} → Result Progress PanelRefusal → S → Painting S → Type 0
IsPainting answer now painting = (painting.answer ≡ answer) × (painting.after ≡ now)

-- A painting is the one in which the panel fails exactly where it is answered that it failed.
abbrev pub GivesPainting : {S : Type 0} → Result Progress PaintingFault → S → (Bool → Painting S) → S → Type 0
GivesPainting (Ok progress) now painting unpainted = IsPainting (Ok progress) now (painting false)
GivesPainting (Err (Refused refusal)) now painting unpainted =
    IsPainting (Err refusal) now (painting (is_failure refusal))
GivesPainting (Err NoMemory) now painting unpainted = now ≡ unpainted
