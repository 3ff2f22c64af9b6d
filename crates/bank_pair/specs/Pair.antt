-- What contracts see of a pair of banks, and how a desk keeps it.
use Rattle.std.specs.Prelude.{◌≡◌, ◌≢◌, ◌⊎◌, ℕ, ◌+◌, ◌<◌, nat_lt, if◌then◌else◌, List, [], ◌∷◌, ◌++◌, map, length, All}
use Rattle.std.specs.Prelude.{Option, Some, None, Ok}
use Rattle.chart_ports.specs.declared.images.Images.{Images}
use Rattle.chart_ports.specs.Disk.{Only}
use Rattle.chart_ports.specs.Moments.{MayBeLeft, images_of}
use Rattle.bank_journal.specs.Content.{Content}
use Rattle.bank_journal.specs.Bank.{frame_of, IsBodyLength}
use Rattle.bank_journal.specs.Moments.{IsInStep}
use Rattle.bank_pair.specs.Head.{bank_named, content_named, current_of, other_than}
use Rattle.bank_pair.specs.Saving.{SaveValue, gate_of_save, written_of}

-- a pair: the file of the current bank, the place of its closed gate, and the save that is under way
pub record PairValue : Type 0 where
  pub file : ℕ
  pub gate : ℕ
  pub save : Option SaveValue

-- this save is under way
abbrev pub Saves : PairValue → SaveValue → Type 0
Saves pair save = pair.save ≡ Some save

-- a save is under way, and a slice of it is left to write
abbrev pub HasSliceLeft : PairValue → Type 0
HasSliceLeft pair = (save : SaveValue) × Saves pair save × (save.written < save.slices)

-- a save is under way, and all of its slices are written
abbrev pub IsWritten : PairValue → Type 0
IsWritten pair = (save : SaveValue) × Saves pair save × (save.written ≡ save.slices)

-- the save with one slice more that is written
abbrev pub with_slice : SaveValue → SaveValue
with_slice save = record save { written = save.written + 1 }

-- ---- room

-- a length of a bank, and how many more bytes a record needs
pub record Lack : Type 0 where
  pub length : ℕ
  pub need : ℕ

-- what a bank lacks, of which so many bytes are used and 268,435,456 are the most
abbrev pub lack_of : ℕ → ℕ → Option Lack
lack_of used need = if nat_lt 268435456 (used + need) then Some (record { length = used; need = need }) else None

-- what the other bank lacks, while a save is under way
abbrev pub lack_beside : Option SaveValue → ℕ → Option Lack
lack_beside None need = None
lack_beside (Some save) need = lack_of (gate_of_save save + 1) need

-- what the pair lacks for a record whose frame has so many bytes: the current bank comes first
abbrev pub lack_for : PairValue → ℕ → Option Lack
lack_for pair need =
    if nat_lt 268435456 (pair.gate + 1 + need) then lack_of (pair.gate + 1) need else lack_beside pair.save need

-- ---- records

-- the save with one more record
abbrev pub with_frame : List ℕ → SaveValue → SaveValue
with_frame frame save = record save { since = save.since ++ frame ∷ [] }

-- what the other bank says in the end, where records with these bodies were appended since the save began
abbrev pub saved_content : SaveValue → List (List ℕ) → Content
saved_content save bodies = record { checkpoint = save.checkpoint; bodies = bodies }

-- the frames of bodies
pub record AreFramed (frames bodies : List (List ℕ)) : Type 0 where
  pub framed : frames ≡ map frame_of bodies
  pub lengths : All (λ body. IsBodyLength (length body)) bodies

-- ---- a desk that keeps it

-- the other bank has the slices that are written
abbrev pub HasSlices : List ℕ → Option SaveValue → Type 0
HasSlices bytes None = Unit {0}
HasSlices bytes (Some save) = save.written ≢ 0 → bytes ≡ written_of save

-- A desk is in step with a pair: the head names the current bank, which is in step with its content, and a crash leaves
-- of both what a read gives. Of the other bank a read gives the slices that are written; what a crash leaves of it
-- doesn't count.
pub record IsPairInStep (contents : ℕ → List ℕ) (may_leave : ℕ → List ℕ → Type 0) (pair : PairValue)
    (content : Content) : Type 0 where
  pub named : bank_named (contents 0) ≡ pair.file
  pub head : Only (contents 0) (may_leave 0)
  pub bank : IsInStep (contents pair.file) (may_leave pair.file) pair.gate content
  pub slices : HasSlices (contents (other_than pair.file)) pair.save

-- ---- what a crash leaves at a moment

-- nothing more is said, and the files say this by the bank that the head names
pub record LeavesContent (said : List ℕ) (content : Content) (images : Images) (so_far : List ℕ) : Type 0 where
  pub silent : so_far ≡ said
  pub says : content_named images ≡ Ok content

-- nothing more is said, and the files say one of these
pub record LeavesEither (said : List ℕ) (before after : Content) (images : Images) (so_far : List ℕ)
    : Type 0 where
  pub silent : so_far ≡ said
  pub either : (content_named images ≡ Ok before) ⊎ (content_named images ≡ Ok after)

-- the same bank is named, and it says the same
pub record SaysAsRead (images read : Images) : Type 0 where
  pub file : current_of images ≡ current_of read
  pub content : content_named images ≡ content_named read

-- nothing more is said, and the files are as a crash might have left them before, or say by the bank that the head
-- names what a read of them gave
pub record LeavesNamed (contents : ℕ → List ℕ) (may_leave : ℕ → List ℕ → Type 0) (said : List ℕ)
    (images : Images) (so_far : List ℕ) : Type 0 where
  pub silent : so_far ≡ said
  pub either : MayBeLeft may_leave images ⊎ SaysAsRead images (images_of contents)
