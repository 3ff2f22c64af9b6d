use Rattle.std.proofs.Common.{List, map, ap, ◌∙◌}
use Rattle.std.specs.List.{filter_map}
use Rattle.plane_geometry.specs.declared.point.Pt.{Pt}
use Rattle.depth_values.specs.Marks.{mark_of, mark_at}
use Rattle.depth_values.specs.Under.{areas_holding}
use Rattle.depth_values.proofs.Marks.{marks_all}
use Rattle.depth_values.proofs.under.marks_under.Goals as goal

pub returns : goal.returns
returns c =
    c.in_ok-marks.ensures
    ∙ (λ i. filter_map (mark_at c.args.areas.now) (c.as_slice-2.ensures.value i))
    ∙ marks_all c.as_slice.result.now c.args.areas.now c.in_ok-places.places.items c.in_ok-places.ensures.held c.in_ok-places.ensures.ordered
    ∙ ap (λ (points : List Pt). map mark_of (areas_holding points c.args.areas.now)) (c.as_slice.ensures.value ∙ c.in_ok-points.ensures)
