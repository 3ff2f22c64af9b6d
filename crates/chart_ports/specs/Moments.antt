-- What a crash at a moment leaves of the three files, and what was said by then.
use Rattle.std.specs.Prelude.{ℕ, zero, suc, ◌≤◌, ◌⊎◌, List, []}
use Rattle.chart_ports.specs.declared.images.Images.{Images}

-- the bytes of the file of a number, and none of a number that is no file's
abbrev pub image_of : Images → ℕ → List ℕ
image_of images zero = images.head
image_of images (suc zero) = images.bank1
image_of images (suc (suc zero)) = images.bank2
image_of images (suc (suc (suc _))) = []

-- the three files as a read gives them
abbrev pub images_of : (ℕ → List ℕ) → Images
images_of contents = record { head = contents 0; bank1 = contents 1; bank2 = contents 2 }

-- a crash may leave each file so
abbrev pub MayBeLeft : (ℕ → List ℕ → Type 0) → Images → Type 0
MayBeLeft may_leave images = (file : ℕ) → may_leave file (image_of images file)

-- A call took the time from one moment to another. At a moment since t there is what was possible then before the call,
-- or each file as a crash inside the call may leave it, with what the call may have said by then.
pub record Elapses (before now : ℕ) (past since : ℕ → Images → List ℕ → Type 0) (may_leave : ℕ → List ℕ → Type 0)
    (says : List ℕ → Type 0) : Type 0 where
  pub later : before ≤ now
  pub nothing_else : (t : ℕ) (images : Images) (said : List ℕ) → t ≤ before → since t images said
      → past t images said ⊎ (MayBeLeft may_leave images × says said)
  pub keeps : (t : ℕ) (images : Images) (said : List ℕ) → t ≤ before → past t images said → since t images said

-- At every moment from one desk to a later one, a crash leaves images and said bytes that have P.
pub record LeavesOnly {D : Type 0} (clock : D → ℕ) (might : D → ℕ → Images → List ℕ → Type 0) (old new : D)
    (P : Images → List ℕ → Type 0) : Type 0 where
  pub later : clock old ≤ clock new
  pub each : (images : Images) (said : List ℕ) → might new (clock old) images said → P images said
  -- for a run that began earlier
  pub before : (t : ℕ) (images : Images) (said : List ℕ) → t ≤ clock old → might new t images said
      → might old t images said ⊎ P images said
