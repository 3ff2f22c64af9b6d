-- The limits of a script and of its lines.
use Rattle.std.specs.Prelude.{ℕ}

-- the most bytes of a script
abbrev pub SCRIPT_LIMIT : ℕ
SCRIPT_LIMIT = 16777216

-- the most bytes of a line that are kept
abbrev pub KEPT_LIMIT : ℕ
KEPT_LIMIT = 1026
