-- The lines of a script that have ended.
use Rattle.std.specs.Prelude.{ℕ, ◌==◌, if◌then◌else◌, List, [], ◌∷◌}

-- a byte before the ended part of what follows it: the part stays empty up to the first line feed from the back
abbrev pub onto_whole_lines : ℕ → List ℕ → List ℕ
onto_whole_lines byte [] = if byte == 10 then byte ∷ [] else []
onto_whole_lines byte (next ∷ more) = byte ∷ next ∷ more

-- the bytes up to the last line feed, and with it
abbrev pub whole_lines : List ℕ → List ℕ
whole_lines [] = []
whole_lines (byte ∷ bytes) = onto_whole_lines byte (whole_lines bytes)
