-- What the calls of a desk do to the bytes of a file, and what a crash may leave of it.
--
-- Of each file by itself, since its last sync that succeeded: a crash leaves a length from the least to the greatest
-- that the file had. The bytes below the least length that nothing touched since are as a read gives them; all others
-- are arbitrary. A write touches its range, a cut all bytes behind it, and a call touches its range as soon as it has
-- begun, whether it succeeds or not. After a sync that succeeds a crash leaves what a read gives.
use Rattle.std.specs.Prelude.{ℕ, ◌+◌, ◌≤◌, ◌≡◌, ◌≢◌, max, List, ◌++◌, length, take, drop}

-- a place in one of the three files, or the end of one
pub record IsPlace (contents : ℕ → List ℕ) (file at : ℕ) : Type 0 where
  pub is_file : file ≤ 2
  pub within : at ≤ length (contents file)

-- the bytes of a file after these were written at a place: over what was there, and past its end
abbrev pub with_bytes : ℕ → List ℕ → List ℕ → List ℕ
with_bytes at bytes file = take at file ++ bytes ++ drop (at + length bytes) file

-- What a crash leaves in or after a write of n bytes at a place, where it might have left old before: any bytes in the
-- range, all others as they were, and a length from the old one to the end of the range.
pub record Torn (at n : ℕ) (old new : List ℕ) : Type 0 where
  pub before : take at new ≡ take at old
  pub after : drop (at + n) new ≡ drop (at + n) old
  pub no_shorter : length old ≤ length new
  pub no_longer : length new ≤ max (length old) (at + n)

-- What a crash leaves in or after a cut to n bytes, where it might have left old before: the bytes below n as they
-- were, and behind them any bytes, up to the old length.
pub record CutShort (n : ℕ) (old new : List ℕ) : Type 0 where
  pub before : take n new ≡ take n old
  pub no_longer : length new ≤ length old

-- what a crash may leave now comes by this step from what it might have left before
abbrev pub Follows : (List ℕ → List ℕ → Type 0) → (List ℕ → Type 0) → (List ℕ → Type 0) → Type 0
Follows step old new = (image : List ℕ) → new image → (from : List ℕ) × old from × step from image

-- a crash leaves these bytes and no others
abbrev pub Only : List ℕ → (List ℕ → Type 0) → Type 0
Only bytes may_leave = (image : List ℕ) → may_leave image → image ≡ bytes

-- a read of each file gives what it gave before
abbrev pub SameFiles : (ℕ → List ℕ) → (ℕ → List ℕ) → Type 0
SameFiles old new = (file : ℕ) → new file ≡ old file

-- a read of each file but this gives what it gave before
abbrev pub SameOthers : ℕ → (ℕ → List ℕ) → (ℕ → List ℕ) → Type 0
SameOthers file old new = (other : ℕ) → other ≢ file → new other ≡ old other

-- whatever a crash may leave of a file now, it might have left before
abbrev pub LeavesNoMore : (ℕ → List ℕ → Type 0) → (ℕ → List ℕ → Type 0) → Type 0
LeavesNoMore old new = (file : ℕ) (image : List ℕ) → new file image → old file image

-- whatever a crash might have left of a file before, it may leave now: nothing was settled
abbrev pub LeavesNoLess : (ℕ → List ℕ → Type 0) → (ℕ → List ℕ → Type 0) → Type 0
LeavesNoLess old new = (file : ℕ) (image : List ℕ) → old file image → new file image

-- whatever a crash may leave now of each file but this, it might have left before
abbrev pub LeavesNoMoreOfOthers : ℕ → (ℕ → List ℕ → Type 0) → (ℕ → List ℕ → Type 0) → Type 0
LeavesNoMoreOfOthers file old new = (other : ℕ) → other ≢ file → (image : List ℕ) → new other image → old other image
