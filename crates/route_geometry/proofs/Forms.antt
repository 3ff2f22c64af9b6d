-- Sums of products, and what follows from two that aren't negative.
use Rattle.std.proofs.Common.{◌≡◌, ℕ, ◌≤◌, ℤ, pos, ◌+ℤ◌, ◌*ℤ◌, ◌≤ℤ◌, int_le, IsTrue, arith}
use Rattle.std.proofs.lemmas.Int.{ints}
use Rattle.plane_geometry.proofs.Integers.{times_sum, times_swap, cancel_le, scale_le, fewer_le}

-- the value of three parts
abbrev pub form : ℕ → ℕ → ℕ → ℤ → ℤ → ℤ → ℤ
form d t s a b c = ((pos d *ℤ a) +ℤ (pos t *ℤ b)) +ℤ (pos s *ℤ c)

pub times_form : (n d t s : ℕ) (a b c : ℤ) → pos n *ℤ form d t s a b c ≡ form d t s (pos n *ℤ a) (pos n *ℤ b) (pos n *ℤ c)
times_form n d t s a b c =
    let out = times_sum (pos n) ((pos d *ℤ a) +ℤ (pos t *ℤ b)) (pos s *ℤ c) in
    let first = times_sum (pos n) (pos d *ℤ a) (pos t *ℤ b) in
    omega (arith, ints, times_swap (pos n) (pos d) a, times_swap (pos n) (pos t) b, times_swap (pos n) (pos s) c)

-- a multiple of what isn't negative
pub scaled : (n d t s : ℕ) (a b c : ℤ) → pos 0 ≤ℤ form d t s a b c → pos 0 ≤ℤ form d t s (pos n *ℤ a) (pos n *ℤ b) (pos n *ℤ c)
scaled n d t s a b c h =
    let grown = scale_le n (pos 0) (form d t s a b c) h in
    omega (arith, ints, times_form n d t s a b c)

-- what isn't negative after parts that take something away isn't negative before them
pub at_start : (d t s : ℕ) (a b c : ℤ) → 1 ≤ d → b ≤ℤ pos 0 → c ≤ℤ pos 0 → pos 0 ≤ℤ form d t s a b c → pos 0 ≤ℤ a
at_start d t s a b c h p q k =
    let leg = scale_le t b (pos 0) p in
    let segment = scale_le s c (pos 0) q in
    cancel_le d (pos 0) a h (omega (arith, ints))

-- what isn't negative after parts, the first of which add something, isn't negative where they are whole
pub at_leg_end : (d t s : ℕ) (a b c : ℤ) → 1 ≤ d → t ≤ d → pos 0 ≤ℤ b → c ≤ℤ pos 0 → pos 0 ≤ℤ form d t s a b c → pos 0 ≤ℤ (a +ℤ b)
at_leg_end d t s a b c h on p q k =
    let leg = fewer_le t d b on p in
    let segment = scale_le s c (pos 0) q in
    cancel_le d (pos 0) (a +ℤ b) h (omega (arith, ints, times_sum (pos d) a b))

-- what isn't negative after parts that add something isn't negative where they are whole
pub at_end : (d t s : ℕ) (a b c : ℤ) → 1 ≤ d → t ≤ d → s ≤ d → pos 0 ≤ℤ b → pos 0 ≤ℤ c → pos 0 ≤ℤ form d t s a b c → pos 0 ≤ℤ ((a +ℤ b) +ℤ c)
at_end d t s a b c h on on' p q k =
    let leg = fewer_le t d b on p in
    let segment = fewer_le s d c on' q in
    cancel_le d (pos 0) ((a +ℤ b) +ℤ c) h (omega (arith, ints, times_sum (pos d) (a +ℤ b) c, times_sum (pos d) a b))

-- a sum of multiples of two forms that aren't negative
pub mixed : (k n d t s : ℕ) (a b c a' b' c' : ℤ) → pos 0 ≤ℤ form d t s a b c → pos 0 ≤ℤ form d t s a' b' c' → pos 0 ≤ℤ form d t s ((pos k *ℤ a) +ℤ (pos n *ℤ a')) ((pos k *ℤ b) +ℤ (pos n *ℤ b')) ((pos k *ℤ c) +ℤ (pos n *ℤ c'))
mixed k n d t s a b c a' b' c' p q =
    let first = scaled k d t s a b c p in
    let second = scaled n d t s a' b' c' q in
    omega (arith, ints, times_sum (pos d) (pos k *ℤ a) (pos n *ℤ a'), times_sum (pos t) (pos k *ℤ b) (pos n *ℤ b'), times_sum (pos s) (pos k *ℤ c) (pos n *ℤ c'))

-- what a test of two numbers answers
pub tested : (a b : ℤ) → a ≤ℤ b → IsTrue (int_le a b)
tested a b h = grind (arith, ints)
