-- Files by their names, as a shelf answers with them.
use Rattle.std.specs.Prelude.{◌≡◌, ℕ, ◌≤◌, Bool, IsTrue, if◌then◌else◌}
use Rattle.std.specs.Prelude.{List, Option, Some, None, Result, Ok, Err}
use Rattle.chart_ports.specs.Count.{Rose}
use Rattle.chart_ports.specs.Fetched.{fetched_of}
use Rattle.chart_ports.specs.declared.shelf.Fetched.{Fetched}
use Rattle.chart_ports.specs.declared.shelf.Fetched.TheVariants.{Bytes, Absent, Long}
use Rattle.chart_store.specs.declared.refusal.Refusal.TheVariants.{FileLong}
use Rattle.session_core.specs.declared.refusal.LineRefusal.{LineRefusal}
use Rattle.session_core.specs.declared.refusal.LineRefusal.TheVariants.{NoFile, ShelfFault, Store}

-- the bytes under each name
abbrev pub Files : Type 0
Files = List ℕ → Option (List ℕ)

-- what a shelf answers to a fetch of each name within one turn, of at most so many bytes, and nothing where it fails
abbrev pub Fetches : Type 0
Fetches = ℕ → List ℕ → Option Fetched

-- what a shelf of these files answers, in a turn in which its fetch fails, or in one in which it doesn't
abbrev pub fetches_of : Files → Bool → Fetches
fetches_of files failed limit name = if failed then None else Some (fetched_of limit (files name))

-- A shelf answers so in a turn: where it tells its files, with them, unless it fails; and it fails only where it
-- counts a fault.
pub record AreFetched (tells : Bool) (files : Files) (before now : ℕ) (fetches : Fetches) : Type 0 where
  pub told : IsTrue tells → (failed : Bool) × (fetches ≡ fetches_of files failed)
  pub cause : (limit : ℕ) (name : List ℕ) → fetches limit name ≡ None → Rose before now

-- The shelf's files stay, and its count of faults doesn't fall.
pub record KeepsShelf {L : Type 0} (tells : Bool) (files : L → Files) (faults : L → ℕ) (before now : L) : Type 0 where
  pub files_stay : IsTrue tells → files now ≡ files before
  pub later : faults before ≤ faults now

-- the bytes of the file of a name, which may have at most so many, or why a line that asks for it is refused
abbrev pub file_in : ℕ → List ℕ → Option Fetched → Result (List ℕ) LineRefusal
file_in limit name None = Err ShelfFault
file_in limit name (Some (Bytes bytes)) = Ok bytes
file_in limit name (Some Absent) = Err (NoFile name)
file_in limit name (Some Long) = Err (Store (FileLong limit))
