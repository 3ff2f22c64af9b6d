use Rattle.route_geometry.proofs.Near.{still}
use Rattle.route_geometry.proofs.leg.leg_meets_point.Goals as goal

pub returns : goal.returns
returns c =
    let p = c.args.p in (
      λ h.
          let m = c.leg_meets_segment.ensures.0 h in
          record {
            d = m.d;
            t = m.t;
            parts = m.parts;
            on_leg = m.on_leg;
            near_x = rw (still m.d m.s p.x) at m.near_x;
            near_y = rw (still m.d m.s p.y) at m.near_y;
          },
      λ m. c.leg_meets_segment.ensures.1 (record {
        d = m.d;
        t = m.t;
        s = m.t;
        parts = m.parts;
        on_leg = m.on_leg;
        on_segment = m.on_leg;
        near_x = rw (still m.d m.t p.x) m.near_x;
        near_y = rw (still m.d m.t p.y) m.near_y;
      }),
    )
