use Rattle.std.proofs.Common.{List, map, ap, ◌∙◌}
use Rattle.depth_values.specs.declared.depth_area.AreaMark.{AreaMark}
use Rattle.depth_values.specs.Under.{points_in, areas_holding}
use Rattle.depth_values.proofs.Marks.{names_told}
use Rattle.depth_values.proofs.under.areas_among.Goals as goal

pub returns : goal.returns
returns c =
    c.in_ok-names.ensures
    ∙ ap (λ (marks : List AreaMark). map (λ (mark : AreaMark). mark.name) marks) (c.as_slice.ensures.value ∙ c.in_ok-marks.ensures)
    ∙ names_told (areas_holding (points_in c.args.shape.now) c.args.areas.now)
