-- Places of two ways at one height.
use Rattle.std.proofs.Common.{◌≡◌, ℕ, ◌+◌, ◌*◌, ◌≤◌, ℤ, pos, negsuc, suc, zero, ◌+ℤ◌, ◌*ℤ◌, neg_ℤ, ◌≤ℤ◌, ◌<ℤ◌, int_lt, refl, sym, ◌∙◌, arith}
use Rattle.std.proofs.Math.Nat.{mul-le-mul_left}
use Rattle.std.proofs.lemmas.Int.{ints, by_lt_z}
use Rattle.plane_geometry.proofs.Integers.{times_sum, times_neg, times_comm}
use Rattle.plane_geometry.proofs.Rays.{lt_yes}
use Rattle.rational_points.proofs.Multiples.{lt_no}

-- what d times a number, t times another and s times a third make
abbrev pub form : ℕ → ℕ → ℕ → ℤ → ℤ → ℤ → ℤ
form d t s a b c = ((pos d *ℤ a) +ℤ (pos t *ℤ b)) +ℤ (pos s *ℤ c)

-- d parts of which t lead on one way and s on another to one height, so far apart. Of each axis a number
-- says how far the second way begins beyond the first, one how far the first leads back, one how far the second leads
pub record Level (ax bx cx ay by cy x : ℤ) : Type 0 where
  pub d : ℕ
  pub t : ℕ
  pub s : ℕ
  pub parts : 1 ≤ d
  pub on_first : t ≤ d
  pub on_second : s ≤ d
  pub across : form d t s ax bx cx ≡ x
  pub level : form d t s ay by cy ≡ pos 0

pub times_times : (m d : ℕ) (a : ℤ) → pos (m * d) *ℤ a ≡ pos m *ℤ (pos d *ℤ a)
times_times m d (pos k) = omega (arith, ints)
times_times m d (negsuc k) = omega (arith, ints, times_neg (pos m) (pos d *ℤ pos (suc k)), times_neg (pos d) (pos (suc k)))

sum_times : (m n : ℕ) (a : ℤ) → pos (m + n) *ℤ a ≡ (pos m *ℤ a) +ℤ (pos n *ℤ a)
sum_times m n a = omega (arith, ints)

combined : (m n d e : ℕ) (a : ℤ) → pos ((m * d) + (n * e)) *ℤ a ≡ (pos m *ℤ (pos d *ℤ a)) +ℤ (pos n *ℤ (pos e *ℤ a))
combined m n d e a = omega (arith, ints, sum_times (m * d) (n * e) a, times_times m d a, times_times n e a)

times_form : (n d t s : ℕ) (a b c : ℤ) → pos n *ℤ form d t s a b c ≡ ((pos n *ℤ (pos d *ℤ a)) +ℤ (pos n *ℤ (pos t *ℤ b))) +ℤ (pos n *ℤ (pos s *ℤ c))
times_form n d t s a b c =
    omega (arith, ints, times_sum (pos n) ((pos d *ℤ a) +ℤ (pos t *ℤ b)) (pos s *ℤ c), times_sum (pos n) (pos d *ℤ a) (pos t *ℤ b))

-- m times one place and n times another
mixed : (m n d t s d' t' s' : ℕ) (a b c : ℤ) → form ((m * d) + (n * d')) ((m * t) + (n * t')) ((m * s) + (n * s')) a b c ≡ (pos m *ℤ form d t s a b c) +ℤ (pos n *ℤ form d' t' s' a b c)
mixed m n d t s d' t' s' a b c =
    omega (arith, ints, times_form m d t s a b c, times_form n d' t' s' a b c, combined m n d d' a, combined m n t t' b, combined m n s s' c)

at_most : (m n d t d' t' : ℕ) → t ≤ d → t' ≤ d' → ((m * t) + (n * t')) ≤ ((m * d) + (n * d'))
at_most m n d t d' t' h k = omega (arith, mul-le-mul_left m h, mul-le-mul_left n k)

-- levels that are apart to different sides have one between them where they meet
mixture : (ax bx cx ay by cy x y z : ℤ) (m n : ℕ) → 1 ≤ n → Level ax bx cx ay by cy x → Level ax bx cx ay by cy y → (pos m *ℤ x) +ℤ (pos n *ℤ y) ≡ z → Level ax bx cx ay by cy z
mixture ax bx cx ay by cy x y z m n some f g e = record {
  d = (m * f.d) + (n * g.d);
  t = (m * f.t) + (n * g.t);
  s = (m * f.s) + (n * g.s);
  parts = omega (arith, some, mul-le-mul_left n g.parts);
  on_first = at_most m n f.d f.t g.d g.t f.on_first g.on_first;
  on_second = at_most m n f.d f.s g.d g.s f.on_second g.on_second;
  across = mixed m n f.d f.t f.s g.d g.t g.s ax bx cx ∙ rw (f.across, g.across) e;
  level = mixed m n f.d f.t f.s g.d g.t g.s ay by cy ∙ rw (f.level, g.level) (omega (arith, ints));
}

pub crossing : (ax bx cx ay by cy x y : ℤ) → pos 0 <ℤ x → y ≤ℤ pos 0 → Level ax bx cx ay by cy x → Level ax bx cx ay by cy y → Level ax bx cx ay by cy (pos 0)
crossing ax bx cx ay by cy (pos (suc m)) (pos zero) h k f g = g
crossing ax bx cx ay by cy (pos (suc m)) (pos (suc n)) h k f g = absurd (omega (arith, ints, k))
crossing ax bx cx ay by cy (pos (suc m)) (negsuc n) h k f g =
    mixture ax bx cx ay by cy (pos (suc m)) (negsuc n) (pos 0) (suc n) (suc m) (omega arith) f g (omega (arith, ints, times_comm (pos (suc m)) (negsuc n)))
crossing ax bx cx ay by cy (pos zero) y h k f g = absurd (omega (arith, ints, h))
crossing ax bx cx ay by cy (negsuc m) y h k f g = absurd (omega (arith, ints, h))

-- without such a place all levels are apart to one side
pub same_side : (ax bx cx ay by cy x y : ℤ) → ¬ Level ax bx cx ay by cy (pos 0) → Level ax bx cx ay by cy x → Level ax bx cx ay by cy y → int_lt (pos 0) x ≡ int_lt (pos 0) y
same_side ax bx cx ay by cy x y none f g =
    by_lt_z (pos 0) x
    (λ far. by_lt_z (pos 0) y
    (λ far'. lt_yes (pos 0) x far ∙ sym (lt_yes (pos 0) y far'))
    (λ near. absurd (none (crossing ax bx cx ay by cy x y far near f g))))
    (λ near. by_lt_z (pos 0) y
    (λ far. absurd (none (crossing ax bx cx ay by cy y x far near g f)))
    (λ near'. lt_no (pos 0) x near ∙ sym (lt_no (pos 0) y near')))

-- ---- the levels of the ways' ends

-- where the first way begins
pub at_first_begin : (n s : ℕ) (ax bx cx ay by cy x : ℤ) → 1 ≤ n → s ≤ n → cy ≡ pos n → ay ≡ neg_ℤ (pos s) → (cx *ℤ pos s) +ℤ (pos n *ℤ ax) ≡ x → Level ax bx cx ay by cy x
at_first_begin n s ax bx cx ay by cy x some on e f is = record {
  d = n;
  t = 0;
  s = s;
  parts = some;
  on_first = omega arith;
  on_second = on;
  across = omega (arith, ints, is, times_comm cx (pos s));
  level = rw (e, f) (omega (arith, ints, times_neg (pos n) (pos s), times_comm (pos n) (pos s)));
}

-- where it ends
pub at_first_end : (n s : ℕ) (ax bx cx ay by cy x : ℤ) → 1 ≤ n → s ≤ n → cy ≡ pos n → ay +ℤ by ≡ neg_ℤ (pos s) → (cx *ℤ pos s) +ℤ (pos n *ℤ (ax +ℤ bx)) ≡ x → Level ax bx cx ay by cy x
at_first_end n s ax bx cx ay by cy x some on e f is = record {
  d = n;
  t = n;
  s = s;
  parts = some;
  on_first = omega arith;
  on_second = on;
  across = omega (arith, ints, is, times_comm cx (pos s), times_sum (pos n) ax bx);
  level =
      let high : pos n *ℤ (ay +ℤ by) ≡ neg_ℤ (pos n *ℤ pos s) = rw f (times_neg (pos n) (pos s)) in
      rw e (omega (arith, ints, high, times_sum (pos n) ay by, times_comm (pos n) (pos s)));
}

-- where the second way begins
pub at_second_begin : (n t : ℕ) (ax bx cx ay by cy x : ℤ) → 1 ≤ n → t ≤ n → by ≡ neg_ℤ (pos n) → ay ≡ pos t → (pos n *ℤ ax) +ℤ (bx *ℤ pos t) ≡ x → Level ax bx cx ay by cy x
at_second_begin n t ax bx cx ay by cy x some on e f is = record {
  d = n;
  t = t;
  s = 0;
  parts = some;
  on_first = on;
  on_second = omega arith;
  across = omega (arith, ints, is, times_comm bx (pos t));
  level = rw (e, f) (omega (arith, ints, times_neg (pos t) (pos n), times_comm (pos n) (pos t)));
}

-- where it ends
pub at_second_end : (n t : ℕ) (ax bx cx ay by cy x : ℤ) → 1 ≤ n → t ≤ n → by ≡ neg_ℤ (pos n) → ay +ℤ cy ≡ pos t → (pos n *ℤ (ax +ℤ cx)) +ℤ (bx *ℤ pos t) ≡ x → Level ax bx cx ay by cy x
at_second_end n t ax bx cx ay by cy x some on e f is = record {
  d = n;
  t = t;
  s = n;
  parts = some;
  on_first = on;
  on_second = omega arith;
  across = omega (arith, ints, is, times_comm bx (pos t), times_sum (pos n) ax cx);
  level =
      let high : pos n *ℤ (ay +ℤ cy) ≡ pos n *ℤ pos t = rw f refl in
      rw e (omega (arith, ints, high, times_sum (pos n) ay cy, times_neg (pos t) (pos n), times_comm (pos n) (pos t)));
}
