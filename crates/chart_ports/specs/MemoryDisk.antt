-- What contracts see of a disk in memory.
use Rattle.std.specs.Prelude.{ℕ, ◌+◌, ◌≤◌, ◌≡◌, List, ◌∷◌, [], ◌++◌, length, vec_len, vec_capacity}
use Rattle.chart_ports.specs.Disk.{Follows, LeavesNoMore, LeavesNoMoreOfOthers, SameFiles, SameOthers}
use Rattle.chart_ports.specs.Log.{Event, IsLeftSince, State, after, disk_with, events_of}
use Rattle.chart_ports.specs.MemoryFiles.{HasFileRoom}
use Rattle.chart_ports.specs.Moments.{Elapses, image_of}
use Rattle.chart_ports.specs.Said.{SaysFront}
use Rattle.chart_ports.specs.declared.images.Images.{Images}
use Rattle.chart_ports.specs.declared.memory_disk.MemoryDisk.{MemoryDisk}

-- the files that it was opened with
abbrev pub start_of : MemoryDisk → Images
start_of disk = disk.start

-- its log
abbrev pub events : MemoryDisk → List Event
events disk = events_of disk.log.items disk.bytes.items

-- what its log makes of it
abbrev pub state_of : MemoryDisk → State
state_of disk = after (disk_with disk.start) (events disk)

-- what a read of the file of a number gives
abbrev pub contents_of : MemoryDisk → ℕ → List ℕ
contents_of disk = image_of (state_of disk).files

-- what a crash now may leave of the file of a number
abbrev pub leaves_of : MemoryDisk → ℕ → List ℕ → Type 0
leaves_of disk = (state_of disk).leaves

-- all that was said
abbrev pub said_of : MemoryDisk → List ℕ
said_of disk = (state_of disk).said

-- the moment: the number of calls that the log has
abbrev pub clock_of : MemoryDisk → ℕ
clock_of disk = length (events disk)

-- what a crash at a moment from that one on could have left
abbrev pub might_of : MemoryDisk → ℕ → Images → List ℕ → Type 0
might_of disk = IsLeftSince (disk_with disk.start) (events disk)

-- there is room for so many calls, and for so many bytes written or said
pub record HasRoom (disk : MemoryDisk) (calls bytes : ℕ) : Type 0 where
  pub log : vec_len disk.log + calls ≤ vec_capacity disk.log
  pub pool : vec_len disk.bytes + bytes ≤ vec_capacity disk.bytes
  pub said : vec_len disk.said + bytes ≤ vec_capacity disk.said
  pub files : HasFileRoom disk.files bytes

-- nothing was logged
pub record Stays (old new : MemoryDisk) : Type 0 where
  pub start : new.start ≡ old.start
  pub events : events new ≡ events old

-- one more call was logged
pub record Logs (old new : MemoryDisk) (event : Event) : Type 0 where
  pub start : new.start ≡ old.start
  pub events : events new ≡ events old ++ event ∷ []

-- the files and what was said stay, and so does what a crash may leave, if a sync doesn't settle it
pub record Keeps (old new : MemoryDisk) : Type 0 where
  pub files : SameFiles (contents_of old) (contents_of new)
  pub said : said_of new ≡ said_of old
  pub crash : LeavesNoMore (leaves_of old) (leaves_of new)
  pub time : Elapses (clock_of old) (clock_of new) (might_of old) (might_of new) (leaves_of old)
      (λ now. now ≡ said_of old)

-- one file was touched, by a step of what a crash may leave of it
pub record Touches (step : List ℕ → List ℕ → Type 0) (file : ℕ) (old new : MemoryDisk) : Type 0 where
  pub others : SameOthers file (contents_of old) (contents_of new)
  pub said : said_of new ≡ said_of old
  pub crash : Follows step (leaves_of old file) (leaves_of new file)
  pub crash_others : LeavesNoMoreOfOthers file (leaves_of old) (leaves_of new)
  pub time : Elapses (clock_of old) (clock_of new) (might_of old) (might_of new) (leaves_of new)
      (λ now. now ≡ said_of old)

-- a front of the bytes may have been said, and the files stay
pub record SaysOnly (bytes : List ℕ) (old new : MemoryDisk) : Type 0 where
  pub files : SameFiles (contents_of old) (contents_of new)
  pub crash : LeavesNoMore (leaves_of old) (leaves_of new)
  pub time : Elapses (clock_of old) (clock_of new) (might_of old) (might_of new) (leaves_of old)
      (SaysFront (said_of old) bytes)
