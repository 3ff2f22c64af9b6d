-- The bytes that end fields and subfields (ISO/IEC 8211).
use Rattle.std.specs.Prelude.{ℕ}

-- ends a field
abbrev pub field_terminator : ℕ
field_terminator = 30

-- stands behind each part of a field but the last
abbrev pub unit_terminator : ℕ
unit_terminator = 31
