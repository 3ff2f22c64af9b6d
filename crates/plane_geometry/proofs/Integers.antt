-- Sums and products of whole numbers.
use Rattle.std.proofs.Common.{◌≡◌, ℕ, ◌+◌, ◌*◌, ◌≤◌, ◌<◌, ℤ, pos, negsuc, ◌+ℤ◌, ◌*ℤ◌, neg_ℤ, ◌≤ℤ◌, ◌<ℤ◌, ap, sym, ◌∙◌, arith}
use Rattle.std.proofs.Math.Nat.{le_of_mul-le-mul_left, lt_of_mul-lt-mul_left, mul-le-mul_left, mul-le-mul_right, mul-lt-mul_of_pos_left}
use Rattle.std.proofs.lemmas.Int.{ints}
use borrow.Author.Differences.{up, down, sum_is_lem, neg_is, product_is, at_most_in, below_in}

pub times_sum : (a b c : ℤ) → a *ℤ (b +ℤ c) ≡ (a *ℤ b) +ℤ (a *ℤ c)
times_sum a b c = omega (arith, ints, ap (λ (n : ℕ). up a * n) (sum_is_lem b c), ap (λ (n : ℕ). down a * n) (sum_is_lem b c))

pub times_neg : (a b : ℤ) → a *ℤ neg_ℤ b ≡ neg_ℤ (a *ℤ b)
times_neg a b =
    omega (arith, ints, ap (λ (n : ℕ). up a * n) (neg_is b).0, ap (λ (n : ℕ). up a * n) (neg_is b).1, ap (λ (n : ℕ). down a * n) (neg_is b).0, ap (λ (n : ℕ). down a * n) (neg_is b).1)

pub neg_times : (a b : ℤ) → neg_ℤ a *ℤ b ≡ neg_ℤ (a *ℤ b)
neg_times a b =
    omega (arith, ints, ap (λ (n : ℕ). n * up b) (neg_is a).0, ap (λ (n : ℕ). n * up b) (neg_is a).1, ap (λ (n : ℕ). n * down b) (neg_is a).0, ap (λ (n : ℕ). n * down b) (neg_is a).1)

pub neg_times_neg : (a b : ℤ) → neg_ℤ a *ℤ neg_ℤ b ≡ a *ℤ b
neg_times_neg a b = omega (arith, ints, neg_times a (neg_ℤ b), times_neg a b)

pub times_comm : (a b : ℤ) → a *ℤ b ≡ b *ℤ a
times_comm a b = omega (arith, ints)

times_assoc : (a b c : ℤ) → (a *ℤ b) *ℤ c ≡ a *ℤ (b *ℤ c)
times_assoc a b c =
    let ab = product_is a b in
    let bc = product_is b c in
    omega (arith, ints, ap (λ (n : ℕ). n * up c) ab.0, ap (λ (n : ℕ). n * up c) ab.1, ap (λ (n : ℕ). n * down c) ab.0, ap (λ (n : ℕ). n * down c) ab.1, ap (λ (n : ℕ). up a * n) bc.0, ap (λ (n : ℕ). up a * n) bc.1, ap (λ (n : ℕ). down a * n) bc.0, ap (λ (n : ℕ). down a * n) bc.1)

pub times_swap : (a b c : ℤ) → a *ℤ (b *ℤ c) ≡ b *ℤ (a *ℤ c)
times_swap a b c = sym (times_assoc a b c) ∙ ap (λ (z : ℤ). z *ℤ c) (times_comm a b) ∙ times_assoc b a c

-- products of a whole number that is at least 1 compare as its factors do
pub cancel_le : (d : ℕ) (a b : ℤ) → 1 ≤ d → (pos d *ℤ a) ≤ℤ (pos d *ℤ b) → a ≤ℤ b
cancel_le d a b h k =
    let lt : 0 < d = omega arith in
    let q : d * (up a + down b) ≤ d * (up b + down a) = omega (arith, ints) in
    at_most_in a b (le_of_mul-le-mul_left q lt)

pub cancel_lt : (d : ℕ) (a b : ℤ) → (pos d *ℤ a) <ℤ (pos d *ℤ b) → a <ℤ b
cancel_lt d a b k =
    let q : d * (up a + down b) < d * (up b + down a) = omega (arith, ints) in
    below_in a b (lt_of_mul-lt-mul_left d q)

pub cancel_eq : (d : ℕ) (a b : ℤ) → 1 ≤ d → pos d *ℤ a ≡ pos d *ℤ b → a ≡ b
cancel_eq d a b h k =
    let low = cancel_le d a b h (omega (arith, ints)) in
    let high = cancel_le d b a h (omega (arith, ints)) in
    omega (arith, ints)

pub scale_le : (d : ℕ) (a b : ℤ) → a ≤ℤ b → (pos d *ℤ a) ≤ℤ (pos d *ℤ b)
scale_le d a b h =
    let q = mul-le-mul_left {m = up a + down b} {n = up b + down a} d (omega (arith, ints)) in
    omega (arith, ints)

pub scale_lt : (d : ℕ) (a b : ℤ) → 1 ≤ d → a <ℤ b → (pos d *ℤ a) <ℤ (pos d *ℤ b)
scale_lt d a b k h =
    let q = mul-lt-mul_of_pos_left {m = up a + down b} {n = up b + down a} {k = d} (omega (arith, ints)) (omega arith) in
    omega (arith, ints)

-- fewer of a length that is not negative
pub fewer_le : (t d : ℕ) (a : ℤ) → t ≤ d → pos 0 ≤ℤ a → (pos t *ℤ a) ≤ℤ (pos d *ℤ a)
fewer_le t d (pos n) h k =
    let q = mul-le-mul_right {m = t} {n = d} n h in
    omega (arith, ints)
fewer_le t d (negsuc n) h k = absurd (omega (arith, ints))
