use Rattle.cell_bytes.proofs.Spellings.{spells-b11, spells-b12, spells-b14, spells-b24, spells-text}
use Rattle.cell_bytes.proofs.laws.values_are_spelled.Goals as goal

pub returns : goal.returns
returns c = record { b11 = spells-b11; b12 = spells-b12; b14 = spells-b14; b24 = spells-b24; text = spells-text }
