-- The laws of a desk in memory.
use Rattle.std.specs.Prelude.{◌≡◌, ℕ, List, refl}
use Rattle.chart_ports.specs.Log.{disk_with}
use Rattle.chart_ports.specs.LogLaws.{might_now, only_now, present_after}
use Rattle.chart_ports.specs.MemoryDesk.{clock_of, contents_of, events, leaves_of, might_of, said_of, start_of}
use Rattle.chart_ports.specs.Moments.{MayBeLeft}
use Rattle.chart_ports.specs.declared.images.Images.{Images}
use Rattle.chart_ports.specs.declared.memory_desk.MemoryDesk.{MemoryDesk}

-- what a read gives is among what a crash may leave
pub desk_present : (desk : MemoryDesk) (file : ℕ) → leaves_of desk file (contents_of desk file)
desk_present desk file = present_after (disk_with (start_of desk)) (events desk) (λ file. refl) file

-- the present moment is one of those since any other
pub desk_counts_now : (desk : MemoryDesk) (t : ℕ) (images : Images) → MayBeLeft (leaves_of desk) images
    → might_of desk t images (said_of desk)
desk_counts_now desk t images left = might_now (disk_with (start_of desk)) (events desk) t images left

-- since the present moment there is no other
pub desk_only_now : (desk : MemoryDesk) (images : Images) (bytes : List ℕ) → might_of desk (clock_of desk) images bytes
    → MayBeLeft (leaves_of desk) images × (bytes ≡ said_of desk)
desk_only_now desk images bytes might = only_now (disk_with (start_of desk)) (events desk) images bytes might
