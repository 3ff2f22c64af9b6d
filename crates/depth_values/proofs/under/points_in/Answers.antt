use Rattle.std.proofs.Common.{List, ◌++◌, map, sym, ap, ◌∙◌, Vec, Global}
use Rattle.std.specs.List.{flat_map}
use Rattle.plane_geometry.specs.declared.point.Pt.{Pt}
use Rattle.area_rings.specs.Edge.{point_of}
use Rattle.depth_values.specs.Under.{points_in}
use Rattle.depth_values.proofs.under.points_in.Goals as goal
use Rattle.depth_values.proofs.under.points_in.Goals.{in-Points+in_ok-push_places-in-Points, in-Lines+in_ok-push_parts-in-Lines, in-Rings+in_ok-push_parts-in-Rings, in-Bare}

pub returns : goal.returns
returns c =
    let items = λ (v : Vec Pt Global). v.items in
    elim c.match-shape.branch [
      | in-Points+in_ok-push_places-in-Points w ↦
          ap items w.points-is
          ∙ w.in_ok-push_places-in-Points.ensures
          ∙ (λ i. c.new-points.ensures.items i ++ map point_of (w.as_slice.ensures i))
          ∙ ap points_in (sym w.in-Points.is)
      | in-Lines+in_ok-push_parts-in-Lines w ↦
          ap items w.points-is
          ∙ w.in_ok-push_parts-in-Lines.ensures
          ∙ (λ i. c.new-points.ensures.items i ++ flat_map (λ (part : List Pt). part) (w.as_slice-in-Lines.ensures i))
          ∙ ap points_in (sym w.in-Lines.is)
      | in-Rings+in_ok-push_parts-in-Rings w ↦
          ap items w.points-is
          ∙ w.in_ok-push_parts-in-Rings.ensures
          ∙ (λ i. c.new-points.ensures.items i ++ flat_map (λ (part : List Pt). part) (w.as_slice-in-Rings.ensures i))
          ∙ ap points_in (sym w.in-Rings.is)
      | in-Bare w ↦ ap items w.points-is ∙ c.new-points.ensures.items ∙ ap points_in (sym w.in-Bare.is)
    ]
