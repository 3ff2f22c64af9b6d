-- What a desk has said.
use Rattle.std.specs.Prelude.{ℕ, ◌≡◌, List, ◌++◌, take}

-- after what was said before, a front of the bytes
abbrev pub SaysFront : List ℕ → List ℕ → List ℕ → Type 0
SaysFront before bytes now = (n : ℕ) × (now ≡ before ++ take n bytes)
