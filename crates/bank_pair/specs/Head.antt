-- Which of the two banks is the current one, and what it says.
use Rattle.std.specs.Prelude.{ℕ, ◌+◌, ◌-◌, ◌%◌, List, [], ◌∷◌, Result}
use Rattle.chart_ports.specs.declared.images.Images.{Images}
use Rattle.chart_ports.specs.Moments.{image_of}
use Rattle.bank_journal.specs.Content.{Content}
use Rattle.bank_journal.specs.Reading.{bank_of}

-- the file of the bank that a head names: the lowest bit of its first byte is 0 for bank 1 and 1 for bank 2, and an
-- empty head names bank 1
abbrev pub bank_named : List ℕ → ℕ
bank_named [] = 1
bank_named (byte ∷ bytes) = 1 + byte % 2

-- the file of the other bank
abbrev pub other_than : ℕ → ℕ
other_than file = 3 - file

-- the file of the current bank
abbrev pub current_of : Images → ℕ
current_of images = bank_named images.head

-- what the current bank says, or the place of its first fault
unfoldable pub content_named : Images → Result Content ℕ
content_named images = bank_of (image_of images (current_of images))
