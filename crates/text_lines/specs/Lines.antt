-- The lines of a file, beside std's word for them, and the parts of a line.
use Rattle.std.specs.Prelude.{◌≡◌, ◌≢◌, ℕ, Bool, true, ◌==◌, List, [], ◌∷◌, Option, Some, None, ⊤, All}
use Rattle.std.specs.List.{slice_split, enumerate_from}
use Rattle.std.specs.Str.Lines.{lines}

-- the lines of a file, each with its number, counted from 1
abbrev pub numbered_lines : List ℕ → List (ℕ × List ℕ)
numbered_lines bytes = enumerate_from 1 (lines bytes)

-- a line that says nothing: an empty one, or a remark, which begins with `#`
abbrev pub IsSilent : List ℕ → Type 0
IsSilent [] = ⊤
IsSilent (first ∷ rest) = first ≡ 35

-- the same as a test
abbrev pub is_silent : List ℕ → Bool
is_silent [] = true
is_silent (first ∷ rest) = first == 35

-- what stands between the bytes that part a text
abbrev pub parts_at : ℕ → List ℕ → List (List ℕ)
parts_at parting text = slice_split (λ byte. byte == parting) text

-- the same of what is left of a text, where something is
abbrev pub parts_of_rest : ℕ → Option (List ℕ) → List (List ℕ)
parts_of_rest parting None = []
parts_of_rest parting (Some text) = parts_at parting text

-- the words of a line: what stands between single spaces
abbrev pub words_of : List ℕ → List (List ℕ)
words_of line = parts_at 32 line

-- the text doesn't have the byte
abbrev pub Lacks : ℕ → List ℕ → Type 0
Lacks byte text = All (λ b. b ≢ byte) text
