-- Points that two segments have in common.
use Rattle.std.proofs.Common.{◌≡◌, ℕ, ◌≤◌, ℤ, pos, ◌+ℤ◌, ◌-ℤ◌, ◌*ℤ◌, arith}
use Rattle.std.proofs.lemmas.Int.{ints}
use Rattle.plane_geometry.specs.declared.point.Pt.{Pt}
use Rattle.plane_geometry.specs.Segment.{LiesOnSegment}
use Rattle.plane_geometry.proofs.Integers.{times_swap}
use Rattle.rational_points.specs.RationalPoint.{times}
use Rattle.rational_points.proofs.Multiples.{times_difference, reversed}
use Rattle.rational_points.proofs.Levels.{form, Level}

-- with all sides n times as long, r lies on the segments from p to q and from c to e
pub record Common (p q c e : Pt) : Type 0 where
  pub n : ℕ
  pub r : Pt
  pub parts : 1 ≤ n
  pub on_first : LiesOnSegment r (times n p) (times n q)
  pub on_second : LiesOnSegment r (times n c) (times n e)

pub first_turned : (p q c e : Pt) → Common p q c e → Common q p c e
first_turned p q c e k = record { n = k.n; r = k.r; parts = k.parts; on_first = reversed k.r (times k.n p) (times k.n q) k.on_first; on_second = k.on_second }

pub common_turned : (p q c e : Pt) → Common p q c e → Common p q e c
common_turned p q c e k = record { n = k.n; r = k.r; parts = k.parts; on_first = k.on_first; on_second = reversed k.r (times k.n c) (times k.n e) k.on_second }

-- t of d parts of the way from a to b, d times as far from the origin
abbrev place : ℕ → ℕ → ℤ → ℤ → ℤ
place d t a b = (pos d *ℤ a) +ℤ (pos t *ℤ (b -ℤ a))

pub along_first : (d t : ℕ) (a b : ℤ) → pos d *ℤ (place d t a b -ℤ (pos d *ℤ a)) ≡ pos t *ℤ ((pos d *ℤ b) -ℤ (pos d *ℤ a))
along_first d t a b =
    let way : place d t a b -ℤ (pos d *ℤ a) ≡ pos t *ℤ (b -ℤ a) = omega (arith, ints) in
    rw (way, times_difference d b a) (times_swap (pos d) (pos t) (b -ℤ a))

along_second : (d t s : ℕ) (a b c e : ℤ) → form d t s (c -ℤ a) (a -ℤ b) (e -ℤ c) ≡ pos 0 → pos d *ℤ (place d t a b -ℤ (pos d *ℤ c)) ≡ pos s *ℤ ((pos d *ℤ e) -ℤ (pos d *ℤ c))
along_second d t s a b c e h =
    let way : place d t a b -ℤ (pos d *ℤ c) ≡ pos s *ℤ (e -ℤ c) =
    omega (arith, ints, h, times_difference d c a, times_difference t a b, times_difference t b a) in
    rw (way, times_difference d e c) (times_swap (pos d) (pos s) (e -ℤ c))

-- a level where the two ways aren't apart is a point of both
pub common_of_level : (a b c e : Pt) → Level (c.x -ℤ a.x) (a.x -ℤ b.x) (e.x -ℤ c.x) (c.y -ℤ a.y) (a.y -ℤ b.y) (e.y -ℤ c.y) (pos 0) → Common a b c e
common_of_level a b c e l = record {
  n = l.d;
  r = record { x = place l.d l.t a.x b.x; y = place l.d l.t a.y b.y };
  parts = l.parts;
  on_first = record {
    d = l.d;
    t = l.t;
    parts = l.parts;
    on_the_way = l.on_first;
    at_x = along_first l.d l.t a.x b.x;
    at_y = along_first l.d l.t a.y b.y;
  };
  on_second = record {
    d = l.d;
    t = l.s;
    parts = l.parts;
    on_the_way = l.on_second;
    at_x = along_second l.d l.t l.s a.x b.x c.x e.x l.across;
    at_y = along_second l.d l.t l.s a.y b.y c.y e.y l.level;
  };
}
