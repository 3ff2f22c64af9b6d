-- Sides that are reached somewhere.
use Rattle.std.proofs.Common.{ℤ, pos, ◌+ℤ◌, ◌≤ℤ◌, arith}
use Rattle.std.specs.Int.{int_max}
use Rattle.std.proofs.lemmas.Int.{ints, int_max_is}
use Rattle.plane_geometry.proofs.Integers.{scale_le}
use Rattle.route_geometry.specs.declared.side.Side.{Side}
use Rattle.route_geometry.specs.Side.{Place, IsWithin}
use Rattle.route_geometry.proofs.Forms.{at_end}

not_above : (a : ℤ) → a ≤ℤ int_max a (pos 0)
not_above a = omega (arith, ints, int_max_is a (pos 0))

not_negative : (a : ℤ) → pos 0 ≤ℤ int_max a (pos 0)
not_negative a = omega (arith, ints, int_max_is a (pos 0))

-- where a place is within a side, so is the one to which the ways lead that lead into it
pub reached : (f : Side) (p : Place) → IsWithin p f
    → pos 0 ≤ℤ ((f.start +ℤ int_max f.leg (pos 0)) +ℤ int_max f.segment (pos 0))
reached f p h =
    let leg = scale_le p.t f.leg (int_max f.leg (pos 0)) (not_above f.leg) in
    let segment = scale_le p.s f.segment (int_max f.segment (pos 0)) (not_above f.segment) in
    at_end p.d p.t p.s f.start (int_max f.leg (pos 0)) (int_max f.segment (pos 0)) p.parts p.on_leg p.on_segment
    (not_negative f.leg) (not_negative f.segment) (omega (arith, ints, leg, segment))
