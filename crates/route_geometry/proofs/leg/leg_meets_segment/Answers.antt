use Rattle.route_geometry.specs.Side.{Place}
use Rattle.route_geometry.specs.Leg.{MeetsSegment}
use Rattle.route_geometry.proofs.Near.{met_at}
use Rattle.route_geometry.proofs.leg.leg_meets_segment.Goals as goal

pub returns : goal.returns
returns c =
    let x = rw (c.of_x.ensures.from, c.of_x.ensures.to, c.of_x-2.ensures.from, c.of_x-2.ensures.to) at c.new-x.ensures in
    let y = rw (c.of_y.ensures.from, c.of_y.ensures.to, c.of_y-2.ensures.from, c.of_y-2.ensures.to) at c.new-y.ensures in
    let place = λ (m : MeetsSegment c.args.leg.now c.args.c c.args.e).
    let p : Place = record { d = m.d; t = m.t; s = m.s; parts = m.parts; on_leg = m.on_leg; on_segment = m.on_segment } in p in (
      λ h.
          let met = c.bands_meet.ensures.0 h in
          met_at c.args.leg.now c.args.c c.args.e met.0 ((x met.0).1 met.1) ((y met.0).1 met.2),
      λ m. c.bands_meet.ensures.1 (place m, (x (place m)).0 m.near_x, (y (place m)).0 m.near_y),
    )
