-- A checkpoint that is written into the other bank while records are appended to the current one.
use Rattle.std.specs.Prelude.{◌↔◌, ℕ, ◌+◌, ◌*◌, ◌≤◌, List, ◌∷◌, ◌++◌, length, take}
use Rattle.std.specs.List.{sum_by}
use Rattle.byteorder.specs.Endian.{big_bytes}
use Rattle.chart_ports.specs.declared.images.Images.{Images}
use Rattle.bank_journal.specs.Moments.{LeavesFile}

-- the header of a bank with its checkpoint: the layout 0, the checkpoint's length in seven bytes, the checkpoint
unfoldable pub with_header : List ℕ → List ℕ
with_header checkpoint = 0 ∷ big_bytes 7 (length checkpoint) ++ checkpoint

-- so many slices of 65,536 bytes hold them, and no fewer
abbrev pub AreSlicesOf : List ℕ → ℕ → Type 0
AreSlicesOf checkpoint slices = (n : ℕ) → (8 + length checkpoint ≤ n * 65536) ↔ (slices ≤ n)

-- a save: the checkpoint, in how many slices it is written, how many of them are, and the frames of the records that
-- were appended since it began
pub record SaveValue : Type 0 where
  pub checkpoint : List ℕ
  pub slices : ℕ
  pub written : ℕ
  pub since : List (List ℕ)

-- what is written of it
abbrev pub written_of : SaveValue → List ℕ
written_of save = take (save.written * 65536) (with_header save.checkpoint)

-- where the closed gate of the other bank will stand: behind the header, the checkpoint and the records since
abbrev pub gate_of_save : SaveValue → ℕ
gate_of_save save = 8 + length save.checkpoint + sum_by (λ frame. length frame) save.since

-- nothing more is said, a crash leaves each other file as it might have been left before, and this one with any bytes
abbrev pub LeavesAnything : ℕ → (ℕ → List ℕ → Type 0) → List ℕ → Images → List ℕ → Type 0
LeavesAnything file may_leave said = LeavesFile file may_leave said (λ _. Unit {0})
