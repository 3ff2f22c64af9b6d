-- The words with the borders of a view marked.
--
-- A border may begin with `-`, as an option does. So each of the four words behind `--view` is handed to the command
-- with `=` (61) before it, and read without that.
use Rattle.std.specs.Prelude.{ℕ, ◌-◌, nat_le, if◌then◌else◌, List, [], ◌∷◌, codes}
use Rattle.std.specs.Str.{bytes_eq}
use Rattle.picture_words.specs.declared.marked.Next.{Next}
use Rattle.picture_words.specs.declared.marked.Next.TheVariants.{Program, Word, Border, File}

-- what follows a word: four borders behind `--view`, and nothing but files behind `--`
abbrev pub next_of : List ℕ → Next
next_of word =
    if bytes_eq word (codes "--") then File
    else if bytes_eq word (codes "--view") then Border 4
    else Word

abbrev pub after : Next → List ℕ → Next
after Program word = Word
after Word word = next_of word
after (Border left) word = if nat_le left 1 then Word else Border (left - 1)
after File word = File

-- a word as it is handed on
abbrev pub marked : Next → List ℕ → List ℕ
marked Program word = word
marked Word word = word
marked (Border left) word = 61 ∷ word
marked File word = word

unfoldable pub marked_from : Next → List (List ℕ) → List (List ℕ)
marked_from next [] = []
marked_from next (word ∷ more) = marked next word ∷ marked_from (after next word) more

-- the words of a command line, the program's name first
abbrev pub marked_words : List (List ℕ) → List (List ℕ)
marked_words words = marked_from Program words
