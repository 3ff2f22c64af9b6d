-- What a shelf answers.
use Rattle.std.specs.Prelude.{ℕ, ◌≤◌, List, length, Option, Some, None, nat_le, if◌then◌else◌}
use Rattle.chart_ports.specs.declared.shelf.Fetched.{Fetched}
use Rattle.chart_ports.specs.declared.shelf.Fetched.TheVariants.{Bytes, Absent, Long}

-- the answer for a file of these bytes, or for none
abbrev pub fetched_of : ℕ → Option (List ℕ) → Fetched
fetched_of limit None = Absent
fetched_of limit (Some bytes) = if nat_le (length bytes) limit then Bytes bytes else Long

-- no more bytes than were allowed
abbrev pub IsWithin : ℕ → Fetched → Type 0
IsWithin limit (Bytes bytes) = length bytes ≤ limit
IsWithin limit Absent = Unit {0}
IsWithin limit Long = Unit {0}
