-- What a log of calls on a disk of three files makes of it: the files, what a crash may leave, and what was said.
use Rattle.std.specs.Prelude.{ℕ, zero, suc, ◌+◌, ◌≡◌, ◌≢◌, ◌⊎◌, true, false, List, [], ◌∷◌, ◌++◌, length, take, drop}
use Rattle.chart_ports.specs.Disk.{CutShort, Torn, with_bytes}
use Rattle.chart_ports.specs.Moments.{MayBeLeft, image_of}
use Rattle.chart_ports.specs.Said.{SaysFront}
use Rattle.chart_ports.specs.declared.images.Images.{Images}
use Rattle.chart_ports.specs.declared.log.Deed.{Deed}
use Rattle.chart_ports.specs.declared.log.Deed.TheVariants.{Nothing, Write, Cut, Sync, Say}
use Rattle.chart_ports.specs.declared.log.Logged.{Logged}

-- a call: what it did, and the bytes that it was given
abbrev pub Event : Type 0
Event = Deed × List ℕ

-- the calls of a log, whose bytes stand one after the other
abbrev pub events_of : List Logged → List ℕ → List Event
events_of [] bytes = []
events_of (logged ∷ log) bytes = (logged.deed, take logged.size bytes) ∷ events_of log (drop logged.size bytes)

-- how many bytes the calls of a log were given
abbrev pub size_of : List Logged → ℕ
size_of [] = 0
size_of (logged ∷ log) = logged.size + size_of log

-- the three files, with these bytes in the place of one
abbrev pub with_image : Images → ℕ → List ℕ → Images
with_image images zero bytes = record images { head = bytes }
with_image images (suc zero) bytes = record images { bank1 = bytes }
with_image images (suc (suc zero)) bytes = record images { bank2 = bytes }
with_image images (suc (suc (suc _))) bytes = images

-- a disk: what a read of its files gives, what a crash may leave of each, and what was said
pub record State : Type 1 where
  pub files : Images
  pub leaves : ℕ → List ℕ → Type 0
  pub said : List ℕ

-- a disk with these files, all of them on the disk, that has said nothing
abbrev pub disk_with : Images → State
disk_with files = record { files = files; leaves = λ file image. image ≡ image_of files file; said = [] }

-- What a crash may leave after a file was touched: of another file what it might have left before; of this one what a
-- read now gives, or what comes by this step from what it might have left before.
abbrev pub IsLeftByTouch : (List ℕ → List ℕ → Type 0) → ℕ → List ℕ → (ℕ → List ℕ → Type 0) → ℕ → List ℕ → Type 0
IsLeftByTouch step file now old other image = ((other ≢ file) × old other image)
    ⊎ (((other ≡ file) × (image ≡ now)) ⊎ ((other ≡ file) × ((from : List ℕ) × old file from × step from image)))

-- what a crash may leave after a file was brought to the disk
abbrev pub IsLeftBySync : ℕ → List ℕ → (ℕ → List ℕ → Type 0) → ℕ → List ℕ → Type 0
IsLeftBySync file now old other image = ((other ≢ file) × old other image) ⊎ ((other ≡ file) × (image ≡ now))

-- the files after a call
abbrev pub files_after : Images → Deed → List ℕ → Images
files_after files Nothing bytes = files
files_after files (Write file at done) bytes =
    with_image files file (with_bytes at (take done bytes) (image_of files file))
files_after files (Cut file n true) bytes = with_image files file (take n (image_of files file))
files_after files (Cut file n false) bytes = files
files_after files (Sync file done) bytes = files
files_after files (Say done) bytes = files

-- what a crash may leave after a call
abbrev pub leaves_after : State → Deed → List ℕ → ℕ → List ℕ → Type 0
leaves_after disk Nothing bytes = disk.leaves
leaves_after disk (Write file at done) bytes =
    IsLeftByTouch (Torn at (length bytes)) file
    (image_of (files_after disk.files (Write file at done) bytes) file) disk.leaves
leaves_after disk (Cut file n done) bytes =
    IsLeftByTouch (CutShort n) file (image_of (files_after disk.files (Cut file n done) bytes) file) disk.leaves
leaves_after disk (Sync file true) bytes = IsLeftBySync file (image_of disk.files file) disk.leaves
leaves_after disk (Sync file false) bytes = disk.leaves
leaves_after disk (Say done) bytes = disk.leaves

-- what was said after a call
abbrev pub said_after : List ℕ → Deed → List ℕ → List ℕ
said_after said Nothing bytes = said
said_after said (Write file at done) bytes = said
said_after said (Cut file n done) bytes = said
said_after said (Sync file done) bytes = said
said_after said (Say done) bytes = said ++ take done bytes

-- what a crash inside a call may leave: inside a sync what it might have left before
abbrev pub leaves_inside : State → Deed → List ℕ → ℕ → List ℕ → Type 0
leaves_inside disk Nothing bytes = disk.leaves
leaves_inside disk (Write file at done) bytes = leaves_after disk (Write file at done) bytes
leaves_inside disk (Cut file n done) bytes = leaves_after disk (Cut file n done) bytes
leaves_inside disk (Sync file done) bytes = disk.leaves
leaves_inside disk (Say done) bytes = disk.leaves

-- what may have been said inside a call
abbrev pub SaysInside : List ℕ → Deed → List ℕ → List ℕ → Type 0
SaysInside said Nothing bytes now = now ≡ said
SaysInside said (Write file at done) bytes now = now ≡ said
SaysInside said (Cut file n done) bytes now = now ≡ said
SaysInside said (Sync file done) bytes now = now ≡ said
SaysInside said (Say done) bytes now = SaysFront said bytes now

-- the disk after a call
abbrev pub after_call : State → Event → State
after_call disk event = record {
  files = files_after disk.files event.0 event.1;
  leaves = leaves_after disk event.0 event.1;
  said = said_after disk.said event.0 event.1;
}

-- the disk after the calls of a log
abbrev pub after : State → List Event → State
after disk [] = disk
after disk (event ∷ events) = after (after_call disk event) events

-- a crash between two calls leaves this, with this said
abbrev pub IsLeftBetween : State → Images → List ℕ → Type 0
IsLeftBetween disk images said = MayBeLeft disk.leaves images × (said ≡ disk.said)

-- a crash inside a call leaves this, with this said by then
abbrev pub IsLeftInside : State → Event → Images → List ℕ → Type 0
IsLeftInside disk event images said =
    MayBeLeft (leaves_inside disk event.0 event.1) images × SaysInside disk.said event.0 event.1 said

-- A crash at a moment since the t-th call of a log was done leaves this, with this said by then: before the next call,
-- inside it, or after it.
abbrev pub IsLeftSince : State → List Event → ℕ → Images → List ℕ → Type 0
IsLeftSince disk [] t images said = IsLeftBetween disk images said
IsLeftSince disk (event ∷ events) zero images said =
    IsLeftBetween disk images said
    ⊎ (IsLeftInside disk event images said ⊎ IsLeftSince (after_call disk event) events zero images said)
IsLeftSince disk (event ∷ events) (suc t) images said = IsLeftSince (after_call disk event) events t images said
