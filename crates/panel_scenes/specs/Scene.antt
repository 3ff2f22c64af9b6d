-- What contracts see of the scene of a panel and of what was counted of its paintings, and what becomes of both.
use Rattle.std.specs.Prelude.{ℕ, ◌+◌, true, if◌then◌else◌, List, length, replicate, Option, Some, None, refl}
use Rattle.std.specs.Coded.{Coded, code_by, coded×, coded_list, coded_option, coded_ℕ}
use Rattle.chart_ports.specs.Count.{one_more}
use Rattle.panel_port.specs.Panel.{Scene as Blocks, scene_code, up_to_last}
use Rattle.scene_sync.specs.Calls.{PanelCall, after_calls, call_code, calls_for}
use Rattle.scene_sync.specs.Scene.{UnderWay, advanced, is_finished, next_calls, refresh_of, shown_of, unless_finished}
use Rattle.scene_sync.specs.declared.scene.Scene.{Scene}

-- what the panel shows, none where that isn't known; the refresh that is under way; how many paintings failed; and how
-- many calls were made by the others
pub record SceneValue : Type 0 where
  pub shown : Option Blocks
  pub refresh : Option UnderWay
  pub failures : ℕ
  pub made : ℕ

abbrev under_way_code : Coded UnderWay
under_way_code =
    code_by (Blocks × (List PanelCall × ℕ)) (coded× scene_code (coded× (coded_list call_code) coded_ℕ))
    (λ it. (it.target, (it.calls, it.made))) (λ parts. record { target = parts.0; calls = parts.1.0; made = parts.1.1 })
    (λ _. refl)

abbrev pub scene_value_code : Coded SceneValue
scene_value_code =
    code_by (Option Blocks × (Option UnderWay × (ℕ × ℕ)))
    (coded× (coded_option scene_code) (coded× (coded_option under_way_code) (coded× coded_ℕ coded_ℕ)))
    (λ it. (it.shown, (it.refresh, (it.failures, it.made))))
    (λ parts. record { shown = parts.0; refresh = parts.1.0; failures = parts.1.1.0; made = parts.1.1.1 })
    (λ _. refl)

abbrev pub scene_value : Scene → ℕ → ℕ → SceneValue
scene_value scene failures made =
    record { shown = shown_of scene; refresh = refresh_of scene; failures = failures; made = made }

-- a panel of which nothing is known
abbrev pub new_scene : SceneValue
new_scene = record { shown = None; refresh = None; failures = 0; made = 0 }

-- as many of them as there are panels
abbrev pub new_scenes : ℕ → List SceneValue
new_scenes panels = replicate panels new_scene

-- the calls of a refresh that is to show these blocks
abbrev pub calls_to : Blocks → SceneValue → List PanelCall
calls_to target scene = calls_for scene.shown target

-- such a refresh, of which no call is made
abbrev pub refresh_to : Blocks → SceneValue → UnderWay
refresh_to target scene = record { target = target; calls = calls_to target scene; made = 0 }

-- what is shown where a refresh has come so far: its target once all its calls are made, and else what these made of it
abbrev pub shown_at : UnderWay → Option Blocks → Option Blocks
shown_at refresh so_far = if is_finished refresh then Some refresh.target else so_far

-- the scene once such a refresh has begun: without a call it is finished at once
abbrev pub refreshing : Blocks → SceneValue → SceneValue
refreshing target scene = record {
  shown = shown_at (refresh_to target scene) scene.shown;
  refresh = unless_finished (refresh_to target scene);
  failures = scene.failures;
  made = scene.made;
}

-- the scene once the next n calls of its refresh are made, or those left where they are fewer
abbrev pub painted : ℕ → UnderWay → SceneValue → SceneValue
painted n refresh scene = record {
  shown = shown_at (advanced n refresh) (after_calls true (next_calls n refresh) scene.shown);
  refresh = unless_finished (advanced n refresh);
  failures = scene.failures;
  made = up_to_last (scene.made + length (next_calls n refresh));
}

-- the scene once it isn't known what is shown
abbrev pub stale : SceneValue → SceneValue
stale scene = record { shown = None; refresh = None; failures = scene.failures; made = scene.made }

-- the same once the panel failed
abbrev pub failed_once : SceneValue → SceneValue
failed_once scene = record { shown = None; refresh = None; failures = one_more scene.failures; made = scene.made }
