-- Counts of faults. They never fall, and one that is kept in 64 bits stays at its last value.
use Rattle.std.specs.Prelude.{ℕ, min, ◌+◌, ◌-◌, ◌^◌, ◌<◌, ◌≤◌, ◌≡◌, ◌⊎◌, Result, IsErr}

-- the last value of a 64-bit count
abbrev pub LAST : ℕ
LAST = 2 ^ 64 - 1

-- the count after one more, which stays at its last value
abbrev pub one_more : ℕ → ℕ
one_more count = min (count + 1) LAST

-- the count stays from here on, whatever happens
abbrev pub IsLast : ℕ → Type 0
IsLast count = LAST ≤ count

-- it went up by at least so much, or stands at its last value
abbrev pub RoseBy : ℕ → ℕ → ℕ → Type 0
RoseBy much before now = (before + much ≤ now) ⊎ IsLast now

-- it went up, or stands at its last value
abbrev pub Rose : ℕ → ℕ → Type 0
Rose before now = RoseBy 1 before now

-- it is known that it did not go up
pub record IsSteady (before now : ℕ) : Type 0 where
  pub same : now ≡ before
  pub below : now < LAST

-- a call fails only where the count went up in it
pub record HasCause {T E : Type 0} (before now : ℕ) (result : Result T E) : Type 0 where
  pub later : before ≤ now
  pub failed : IsErr result → Rose before now
