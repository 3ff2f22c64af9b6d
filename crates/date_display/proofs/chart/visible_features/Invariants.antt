use Rattle.std.proofs.Common.{◌≡◌}
use Rattle.std.specs.FinMap as map
use Rattle.date_display.specs.Days.{date_of}
use Rattle.date_display.proofs.Kept.{without_hidden}
use Rattle.date_display.proofs.chart.visible_features.Given as goal

abbrev pub invariant-loop-name : goal.invariant-loop-name
invariant-loop-name l =
    without_hidden (date_of l.day) l.name-iterator l.shown ≡ without_hidden (date_of l.day) (map.entries l.features) l.features
