-- What contracts see of a scene: what is shown, and the refresh that is under way.
use Rattle.std.specs.Prelude.{ℕ, ◌+◌, ◌≡◌, nat_eq, Bool, true, if◌then◌else◌, List, length, take, drop}
use Rattle.std.specs.Prelude.{Option, Some, None, IfSome}
use Rattle.panel_port.specs.Panel.{Scene as Blocks}
use Rattle.scene_sync.specs.Calls.{PanelCall, after_calls, calls_for}
use Rattle.scene_sync.specs.declared.progress.Progress.{Progress}
use Rattle.scene_sync.specs.declared.refresh.Refresh.{Refresh}
use Rattle.scene_sync.specs.declared.scene.Scene.{Scene}
use Rattle.scene_sync.specs.declared.scene.State.{State}
use Rattle.scene_sync.specs.declared.scene.State.TheVariants.{Stale, Shown, Refreshing}

-- a refresh under way: what is to be shown, the calls that were fixed when it began, and how many of them were made
pub record UnderWay : Type 0 where
  pub target : Blocks
  pub calls : List PanelCall
  pub made : ℕ

-- its calls: those from what was shown when it began to what is to be shown
abbrev pub calls_of : Refresh → List PanelCall
calls_of refresh = calls_for refresh.before refresh.target

abbrev pub under_way_in : Refresh → UnderWay
under_way_in refresh = record { target = refresh.target; calls = calls_of refresh; made = refresh.made }

-- what was shown when it began, after the calls that were made
abbrev pub shown_by : Refresh → Option Blocks
shown_by refresh = after_calls true (take refresh.made (calls_of refresh)) refresh.before

abbrev pub shown_in : State → Option Blocks
shown_in Stale = None
shown_in (Shown blocks) = Some blocks
shown_in (Refreshing refresh) = shown_by refresh

abbrev pub refresh_in : State → Option UnderWay
refresh_in Stale = None
refresh_in (Shown blocks) = None
refresh_in (Refreshing refresh) = Some (under_way_in refresh)

-- what the panel shows: none where the scene is stale, so that this isn't known
abbrev pub shown_of : Scene → Option Blocks
shown_of scene = shown_in scene.state

-- the refresh that is under way, where one is
abbrev pub refresh_of : Scene → Option UnderWay
refresh_of scene = refresh_in scene.state

-- how far it has come
abbrev pub progress_of : UnderWay → Progress
progress_of refresh = record { done = refresh.made; calls = length refresh.calls }

-- a refresh is finished when all its calls are made
abbrev pub is_finished : UnderWay → Bool
is_finished refresh = nat_eq refresh.made (length refresh.calls)

abbrev pub unless_finished : UnderWay → Option UnderWay
unless_finished refresh = if is_finished refresh then None else Some refresh

-- a refresh of which no call was made
abbrev pub begun : List PanelCall → Blocks → Option UnderWay
begun calls target = unless_finished (record { target = target; calls = calls; made = 0 })

-- its next n calls, or those left where they are fewer
abbrev pub next_calls : ℕ → UnderWay → List PanelCall
next_calls n refresh = take n (drop refresh.made refresh.calls)

-- the number of its calls that are made with these
abbrev pub made_after : ℕ → UnderWay → ℕ
made_after n refresh = refresh.made + length (next_calls n refresh)

-- the refresh after these
abbrev pub advanced : ℕ → UnderWay → UnderWay
advanced n refresh = record { target = refresh.target; calls = refresh.calls; made = made_after n refresh }

-- a panel that tells shows what the scene says, where the scene isn't stale
abbrev pub Agrees : Option Blocks → Option Blocks → Type 0
Agrees shown told = IfSome shown (λ blocks. told ≡ Some blocks)
