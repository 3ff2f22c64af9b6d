-- The words of a line, where they are no more than three.
use Rattle.std.specs.Prelude.{◌≡◌, ◌<◌, ℕ, List, [], ◌∷◌, length}
use Rattle.text_lines.specs.declared.words.Words.{Words}
use Rattle.text_lines.specs.declared.words.Words.TheVariants.{One, Two, Three, More}

-- all the words are told, or there are more than three
abbrev pub AreWords : Words → List (List ℕ) → Type 0
AreWords (One first) words = words ≡ first.now ∷ []
AreWords (Two first second) words = words ≡ first.now ∷ second.now ∷ []
AreWords (Three first second third) words = words ≡ first.now ∷ second.now ∷ third.now ∷ []
AreWords More words = 3 < length words
