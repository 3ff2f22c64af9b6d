-- The first four bytes of a text.
use Rattle.std.proofs.Common.{◌≡◌, ℕ, ◌≤◌, List, [], ◌∷◌, length, get_or, take, arith, refl}

pub take-four : (text : List ℕ) → 4 ≤ length text → get_or text 0 0 ∷ get_or text 1 0 ∷ get_or text 2 0 ∷ get_or text 3 0 ∷ [] ≡ take 4 text
take-four [] long = absurd (omega arith)
take-four (a ∷ []) long = absurd (omega arith)
take-four (a ∷ b ∷ []) long = absurd (omega arith)
take-four (a ∷ b ∷ c ∷ []) long = absurd (omega arith)
take-four (a ∷ b ∷ c ∷ d ∷ rest) long = refl
