-- How many bytes of a record are read.
use Rattle.std.specs.Prelude.{ℕ, ◌+◌, List, [], ◌∷◌, if◌then◌else◌}
use Rattle.iso8211_leader.specs.declared.entry.Entry.{Entry}
use Rattle.iso8211_records.specs.Tags.{is_listed}

-- the bytes of the fields with a listed tag
abbrev pub listed_bytes : List (List ℕ) → List Entry → ℕ
listed_bytes tags [] = 0
listed_bytes tags (entry ∷ entries) = (if is_listed tags entry.tag then entry.length else 0) + listed_bytes tags entries
