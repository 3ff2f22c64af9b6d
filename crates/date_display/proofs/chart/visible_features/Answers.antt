use Rattle.std.proofs.Common.{◌≡◌, List, subst, ◌∙◌}
use Rattle.std.specs.FinMap as map
use Rattle.chart_model.specs.declared.cell.Feature.{Feature}
use Rattle.chart_model.specs.declared.name.Name.{Name}
use Rattle.date_display.specs.Days.{date_of}
use Rattle.date_display.proofs.Kept.{without_hidden, without_hidden-all}
use Rattle.date_display.proofs.chart.visible_features.Goals as goal

pub returns : goal.returns
returns c =
    let day = date_of c.args.day in
    let all = c.args.features.now in
    subst (λ (left : List (Name × Feature)). without_hidden day left c.loop-name.shown ≡ without_hidden day (map.entries all) all)
    c.in-None.ensures.steps.0 c.loop-name.invariant
    ∙ without_hidden-all day all
