-- What contracts see of a desk in memory.
use Rattle.std.specs.Prelude.{ℕ, ◌≡◌, List, []}
use Rattle.chart_ports.specs.Log.{Event}
use Rattle.chart_ports.specs.MemoryDisk as disk
use Rattle.chart_ports.specs.declared.calls.Calls.{Calls}
use Rattle.chart_ports.specs.declared.images.Images.{Images}
use Rattle.chart_ports.specs.declared.memory_desk.MemoryDesk.{MemoryDesk}

-- the files that it was opened with
abbrev pub start_of : MemoryDesk → Images
start_of desk = disk.start_of desk.disk

-- its log
abbrev pub events : MemoryDesk → List Event
events desk = disk.events desk.disk

-- what a read of the file of a number gives
abbrev pub contents_of : MemoryDesk → ℕ → List ℕ
contents_of desk = disk.contents_of desk.disk

-- what a crash now may leave of the file of a number
abbrev pub leaves_of : MemoryDesk → ℕ → List ℕ → Type 0
leaves_of desk = disk.leaves_of desk.disk

-- all that was said
abbrev pub said_of : MemoryDesk → List ℕ
said_of desk = disk.said_of desk.disk

-- the moment: the number of calls that the log has
abbrev pub clock_of : MemoryDesk → ℕ
clock_of desk = disk.clock_of desk.disk

-- what a crash at a moment from that one on could have left
abbrev pub might_of : MemoryDesk → ℕ → Images → List ℕ → Type 0
might_of desk = disk.might_of desk.disk

-- there is room for so many calls, and for so many bytes written or said
abbrev pub HasRoom : MemoryDesk → ℕ → ℕ → Type 0
HasRoom desk calls bytes = disk.HasRoom desk.disk calls bytes

-- it has these files, all of them on the disk, and no call was logged yet
pub record IsOpened (files : Images) (desk : MemoryDesk) : Type 0 where
  pub start : start_of desk ≡ files
  pub none_logged : events desk ≡ []

-- its calls
abbrev pub calls_of : MemoryDesk → Calls
calls_of desk = desk.calls

-- nothing but its room may have changed
pub record Stays (old new : MemoryDesk) : Type 0 where
  pub disk_same : disk.Stays old.disk new.disk
  pub calls_same : new.calls ≡ old.calls
