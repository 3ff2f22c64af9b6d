use Rattle.std.proofs.Common.{◌≡◌}
use Rattle.panel_scenes.specs.Scene.{new_scenes}
use Rattle.panel_scenes.proofs.panel_scenes.PanelScenes.new.Given as goal

abbrev pub invariant-loop : goal.invariant-loop
invariant-loop l = l.scenes.items ≡ new_scenes l.counter
