-- Sides of the room in which a leg and a segment are near.
use Rattle.std.specs.Prelude.{◌≡◌, ℕ, pos, neg_ℤ, ◌≤◌, ◌+ℤ◌, ◌*ℤ◌, ◌≤ℤ◌}
use Rattle.route_geometry.specs.declared.side.Side.{Side}

-- t of d equal parts of the leg, and s of d equal parts of the segment
pub record Place : Type 0 where
  pub d : ℕ
  pub t : ℕ
  pub s : ℕ
  pub parts : 1 ≤ d
  pub on_leg : t ≤ d
  pub on_segment : s ≤ d

-- these parts lead to within the side
abbrev pub IsWithin : Place → Side → Type 0
IsWithin p f = pos 0 ≤ℤ (((pos p.d *ℤ f.start) +ℤ (pos p.t *ℤ f.leg)) +ℤ (pos p.s *ℤ f.segment))

-- some place is within both sides
abbrev pub BothMet : Side → Side → Type 0
BothMet f g = (p : Place) × IsWithin p f × IsWithin p g

-- g is f with the leg gone from its end
pub record IsLegTurned (f g : Side) : Type 0 where
  pub start : g.start ≡ f.start +ℤ f.leg
  pub leg : g.leg ≡ neg_ℤ f.leg
  pub segment : g.segment ≡ f.segment

-- g is f with the segment gone from its end
pub record IsSegmentTurned (f g : Side) : Type 0 where
  pub start : g.start ≡ f.start +ℤ f.segment
  pub leg : g.leg ≡ f.leg
  pub segment : g.segment ≡ neg_ℤ f.segment

-- g is f with leg and segment exchanged
pub record IsExchanged (f g : Side) : Type 0 where
  pub start : g.start ≡ f.start
  pub leg : g.leg ≡ f.segment
  pub segment : g.segment ≡ f.leg

-- two sides whose sum is the same everywhere and not negative
pub record IsOpposite (f g : Side) : Type 0 where
  pub start : pos 0 ≤ℤ (f.start +ℤ g.start)
  pub leg : g.leg ≡ neg_ℤ f.leg
  pub segment : g.segment ≡ neg_ℤ f.segment
