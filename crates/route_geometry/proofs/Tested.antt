-- The tests of a leg and a segment, or an area, answer what the relations say.
use Rattle.std.proofs.Common.{◌≡◌, ◌⊎◌, inl, inr, ℕ, ◌*◌, ◌≤◌, ℤ, pos, ◌+ℤ◌, ◌-ℤ◌, ◌*ℤ◌, neg_ℤ, ◌<ℤ◌, int_lt, Bool, true, false, ◌&&◌, ◌||◌, not, IsTrue, List, Any, ap, sym, ◌∙◌, refl, arith}
use Rattle.std.proofs.lemmas.Bool.{false≢true, eqb-true, eq-eqb}
use Rattle.std.proofs.lemmas.Int.{ints}
use Rattle.std.proofs.lemmas.List.Folds.{Any-from_list_any, list_any-from_Any}
use Rattle.plane_geometry.specs.declared.point.Pt.{Pt}
use Rattle.plane_geometry.specs.Segment.{LiesOnSegment}
use Rattle.plane_geometry.specs.EvenOdd.{all_segments}
use Rattle.plane_geometry.proofs.Integers.{times_sum, times_neg}
use Rattle.plane_geometry.proofs.Rays.{lt_yes}
use Rattle.route_geometry.specs.declared.leg.Leg.{Leg}
use Rattle.route_geometry.specs.Leg.{apart, MeetsSegment}
use Rattle.route_geometry.specs.Area.{MeetsSome, MeetsArea}
use Rattle.route_geometry.specs.Parted.{ahead, reach, is_beyond, is_parted, meets_segment, meets_area}
use Rattle.route_geometry.proofs.Near.{near_between, met_at}
use Rattle.route_geometry.proofs.Between.{Form, IsOpposed, InBoth, in_all}
use Rattle.route_geometry.proofs.Open.{met_of_open}
use Rattle.route_geometry.proofs.Directions.{Beyond, Along, NotParted, flip_x, flip_y, leg_x, leg_y, not_parted_x, not_parted_y, upper_open}
use Rattle.route_geometry.proofs.Apart.{met_not_beyond}

both_true : (a b : Bool) → (a && b) ≡ true → (a ≡ true) × (b ≡ true)
both_true true b h = (refl, h)
both_true false b h = absurd (false≢true h)

both_false : (a b : Bool) → (a || b) ≡ false → (a ≡ false) × (b ≡ false)
both_false true b h = absurd (false≢true (sym h))
both_false false b h = (refl, h)

not_true : (a : Bool) → not a ≡ true → a ≡ false
not_true true h = absurd (false≢true h)
not_true false h = refl

denied : (a : Bool) → ¬ (a ≡ true) → a ≡ false
denied true h = absurd (h refl)
denied false h = refl

lt_told : (a b : ℤ) → int_lt a b ≡ true → a <ℤ b
lt_told a b e = omega (arith, ints)

beyond_tested : (leg : Leg) (c e : Pt) (u v : ℤ) → Beyond leg c e u v → is_beyond leg c e u v ≡ true
beyond_tested leg c e u v b =
    rw (lt_yes (reach leg u v) (ahead u v leg.a c) b.ac, lt_yes (reach leg u v) (ahead u v leg.b c) b.bc, lt_yes (reach leg u v) (ahead u v leg.a e) b.ae, lt_yes (reach leg u v) (ahead u v leg.b e) b.be) refl

tested_beyond : (leg : Leg) (c e : Pt) (u v : ℤ) → is_beyond leg c e u v ≡ true → Beyond leg c e u v
tested_beyond leg c e u v h =
    let all = both_true _ _ h in
    let first = both_true _ _ all.0 in
    let second = both_true _ _ all.1 in
    record {
      ac = lt_told (reach leg u v) (ahead u v leg.a c) first.0;
      bc = lt_told (reach leg u v) (ahead u v leg.b c) first.1;
      ae = lt_told (reach leg u v) (ahead u v leg.a e) second.0;
      be = lt_told (reach leg u v) (ahead u v leg.b e) second.1;
    }

-- no line parts leg and segment in either direction
not_parted_along : (leg : Leg) (c e : Pt) (u v x y : ℤ) → is_parted leg c e x y ≡ false → Along u v x y → ¬ Beyond leg c e u v
not_parted_along leg c e u v x y h (inl (f, g)) b =
    false≢true (sym (both_false _ _ h).0 ∙ beyond_tested leg c e x y (rw (f, g) at b))
not_parted_along leg c e u v x y h (inr (f, g)) b =
    false≢true (sym (both_false _ _ h).1 ∙ beyond_tested leg c e (neg_ℤ x) (neg_ℤ y) (rw (f, g) at b))

tested_apart : (leg : Leg) (c e : Pt) → IsTrue (meets_segment leg c e) → NotParted leg c e
tested_apart leg c e h =
    let none = both_false _ _ (not_true _ h) in
    let axes = both_false _ _ none.0 in
    let ways = both_false _ _ none.1 in
    record {
      none = λ u v tried. elim tried [
        | inl axis ↦ elim axis [
          | inl q ↦ not_parted_along leg c e u v (pos 1) (pos 0) axes.0 q
          | inr q ↦ not_parted_along leg c e u v (pos 0) (pos 1) axes.1 q
        ]
        | inr way ↦ elim way [
          | inl q ↦ not_parted_along leg c e u v (leg.b.y -ℤ leg.a.y) (leg.a.x -ℤ leg.b.x) ways.0 q
          | inr q ↦ not_parted_along leg c e u v (e.y -ℤ c.y) (c.x -ℤ e.x) ways.1 q
        ]
      ];
    }

not_parted : (leg : Leg) (c e : Pt) (u v : ℤ) → MeetsSegment leg c e → is_parted leg c e u v ≡ false
not_parted leg c e u v m =
    let one = denied (is_beyond leg c e u v) (λ h. met_not_beyond leg c e m u v (tested_beyond leg c e u v h)) in
    let other = denied (is_beyond leg c e (neg_ℤ u) (neg_ℤ v)) (λ h. met_not_beyond leg c e m (neg_ℤ u) (neg_ℤ v) (tested_beyond leg c e (neg_ℤ u) (neg_ℤ v) h)) in
    rw (one, other) refl

pub met_is_tested : (leg : Leg) (c e : Pt) → MeetsSegment leg c e → IsTrue (meets_segment leg c e)
met_is_tested leg c e m =
    ap not (none (is_parted leg c e (pos 1) (pos 0)) (is_parted leg c e (pos 0) (pos 1)) (is_parted leg c e (leg.b.y -ℤ leg.a.y) (leg.a.x -ℤ leg.b.x)) (is_parted leg c e (e.y -ℤ c.y) (c.x -ℤ e.x)) (not_parted leg c e (pos 1) (pos 0) m) (not_parted leg c e (pos 0) (pos 1) m) (not_parted leg c e (leg.b.y -ℤ leg.a.y) (leg.a.x -ℤ leg.b.x) m) (not_parted leg c e (e.y -ℤ c.y) (c.x -ℤ e.x) m))
  where
    none : (p q r s : Bool) → p ≡ false → q ≡ false → r ≡ false → s ≡ false → ((p || q) || (r || s)) ≡ false
    none p q r s f g h k = rw (f, g, h, k) refl

-- the two sides of a leg and a segment on an axis
abbrev low_of : ℕ → ℤ → ℤ → ℤ → ℤ → Form
low_of w a b c e = record { start = pos w +ℤ (a -ℤ c); leg = b -ℤ a; segment = neg_ℤ (e -ℤ c) }

abbrev high_of : ℕ → ℤ → ℤ → ℤ → ℤ → Form
high_of w a b c e = record { start = pos w -ℤ (a -ℤ c); leg = neg_ℤ (b -ℤ a); segment = e -ℤ c }

made : ℤ → ℤ → ℤ → Form
made x y z = record { start = x; leg = y; segment = z }

same_form : (x y z x' y' z' : ℤ) → x ≡ x' → y ≡ y' → z ≡ z' → made x y z ≡ made x' y' z'
same_form x y z x' y' z' f g h = rw (f, g, h) refl

-- the lower side is the upper one in a mirror
mirrored_side : (w : ℕ) (a b c e : ℤ) → high_of w (neg_ℤ a) (neg_ℤ b) (neg_ℤ c) (neg_ℤ e) ≡ low_of w a b c e
unfolding made
mirrored_side w a b c e =
    same_form (pos w -ℤ (neg_ℤ a -ℤ neg_ℤ c)) (neg_ℤ (neg_ℤ b -ℤ neg_ℤ a)) (neg_ℤ e -ℤ neg_ℤ c) (pos w +ℤ (a -ℤ c)) (b -ℤ a) (neg_ℤ (e -ℤ c)) (omega (arith, ints)) (omega (arith, ints)) (omega (arith, ints))

opposed_of : (w : ℕ) (a b c e : ℤ) → IsOpposed (low_of w a b c e) (high_of w a b c e)
opposed_of w a b c e = record { start = omega (arith, ints); leg = refl; segment = omega (arith, ints) }

upper_met : (leg : Leg) (c e : Pt) → NotParted leg c e → InBoth (high_of leg.w leg.a.x leg.b.x c.x e.x) (high_of leg.h leg.a.y leg.b.y c.y e.y)
upper_met leg c e n = met_of_open _ _ _ _ _ _ (upper_open leg c e n)

pub tested_is_met : (leg : Leg) (c e : Pt) → IsTrue (meets_segment leg c e) → MeetsSegment leg c e
tested_is_met leg c e h =
    let n = tested_apart leg c e h in
    let lx = low_of leg.w leg.a.x leg.b.x c.x e.x in
    let hx = high_of leg.w leg.a.x leg.b.x c.x e.x in
    let ly = low_of leg.h leg.a.y leg.b.y c.y e.y in
    let hy = high_of leg.h leg.a.y leg.b.y c.y e.y in
    let x_is = mirrored_side leg.w leg.a.x leg.b.x c.x e.x in
    let y_is = mirrored_side leg.h leg.a.y leg.b.y c.y e.y in
    let high_high : InBoth hx hy = upper_met leg c e n in
    let low_high : InBoth lx hy = moved x_is refl (upper_met (leg_x leg) (flip_x c) (flip_x e) (not_parted_x leg c e n)) in
    let high_low : InBoth hx ly = moved refl y_is (upper_met (leg_y leg) (flip_y c) (flip_y e) (not_parted_y leg c e n)) in
    let low_low : InBoth lx ly = moved x_is y_is (upper_met (leg_y (leg_x leg)) (flip_y (flip_x c)) (flip_y (flip_x e)) (not_parted_y (leg_x leg) (flip_x c) (flip_x e) (not_parted_x leg c e n))) in
    let all = in_all lx hx ly hy (opposed_of leg.w leg.a.x leg.b.x c.x e.x) (opposed_of leg.h leg.a.y leg.b.y c.y e.y) low_low low_high high_low high_high in
    let p = all.p in
    met_at leg c e p
    ((near_between p.d p.t p.s leg.w leg.a.x leg.b.x c.x e.x _ _ _ _ _ _ refl refl refl refl refl refl).1 (all.f_in, all.g_in))
    ((near_between p.d p.t p.s leg.h leg.a.y leg.b.y c.y e.y _ _ _ _ _ _ refl refl refl refl refl refl).1 (all.h_in, all.k_in))
  where
    moved : {f f' g g' : Form} → f ≡ f' → g ≡ g' → InBoth f g → InBoth f' g'
    moved e k h = rw (e, k) at h

-- a leg whose first point is on a segment meets it
on_axis : (d t w : ℕ) (a b c e : ℤ) → pos d *ℤ (a -ℤ c) ≡ pos t *ℤ (e -ℤ c) → apart d 0 t a b c e ≤ d * w
on_axis d t w a b c e h = omega (arith, ints, h, times_sum (pos d) a (neg_ℤ c), times_neg (pos d) c)

met_on : (leg : Leg) (c e : Pt) → LiesOnSegment leg.a c e → MeetsSegment leg c e
met_on leg c e q = record {
  d = q.d;
  t = 0;
  s = q.t;
  parts = q.parts;
  on_leg = omega arith;
  on_segment = q.on_the_way;
  near_x = on_axis q.d q.t leg.w leg.a.x leg.b.x c.x e.x q.at_x;
  near_y = on_axis q.d q.t leg.h leg.a.y leg.b.y c.y e.y q.at_y;
}

either : (a b : Bool) → (a || b) ≡ true → (a ≡ true) ⊎ (b ≡ true)
either true b h = inl refl
either false b h = inr h

left_true : (a b : Bool) → a ≡ true → (a || b) ≡ true
left_true a b h = rw h refl

right_true : (a b : Bool) → b ≡ true → (a || b) ≡ true
right_true true b h = refl
right_true false b h = h

pub tested_area_is_met : (leg : Leg) (rings : List (List Pt)) → IsTrue (meets_area leg rings) → MeetsArea leg rings
tested_area_is_met leg rings h =
    elim (either _ _ h) [
      | inl some ↦ inl (met (Any-from_list_any (λ s. meets_segment leg s.0 s.1) (all_segments rings) some))
      | inr odd ↦ inr (inr (eqb-true _ _ odd))
    ]
  where
    met : Any (λ s. meets_segment leg s.0 s.1 ≡ true) (all_segments rings) → MeetsSome leg (all_segments rings)
    met (k, s, within, is, tested) = (k, s, within, is, tested_is_met leg s.0 s.1 tested)

pub met_area_is_tested : (leg : Leg) (rings : List (List Pt)) → MeetsArea leg rings → IsTrue (meets_area leg rings)
met_area_is_tested leg rings (inl (k, s, within, is, met)) =
    left_true _ _ (list_any-from_Any (λ s. meets_segment leg s.0 s.1) (all_segments rings) (k, s, within, is, met_is_tested leg s.0 s.1 met))
met_area_is_tested leg rings (inr (inl (k, s, within, is, on))) =
    left_true _ _ (list_any-from_Any (λ s. meets_segment leg s.0 s.1) (all_segments rings) (k, s, within, is, met_is_tested leg s.0 s.1 (met_on leg s.0 s.1 on)))
met_area_is_tested leg rings (inr (inr odd)) = right_true _ _ (eq-eqb _ _ odd)
