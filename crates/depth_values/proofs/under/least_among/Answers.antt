use Rattle.std.proofs.Common.{List, map, ap, ◌∙◌}
use Rattle.depth_values.specs.declared.depth_area.AreaMark.{AreaMark}
use Rattle.depth_values.specs.Under.{points_in, areas_holding, least}
use Rattle.depth_values.proofs.Marks.{depths_told}
use Rattle.depth_values.proofs.under.least_among.Goals as goal

pub returns : goal.returns
returns c =
    c.least_of-depth.ensures
    ∙ ap (λ (marks : List AreaMark). least (map (λ (mark : AreaMark). mark.d1) marks)) (c.as_slice.ensures.value ∙ c.in_ok-marks.ensures)
    ∙ ap least (depths_told (areas_holding (points_in c.args.shape.now) c.args.areas.now))
