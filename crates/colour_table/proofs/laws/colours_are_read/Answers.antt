use Rattle.colour_table.proofs.Swatches.{swatch_spelled, spelled_swatch, bad-to, bad-from}
use Rattle.colour_table.proofs.laws.colours_are_read.Goals as goal

pub returns-clause-swatch : goal.returns-clause-swatch
returns-clause-swatch c =
    λ line swatch. (swatch_spelled c.numbers_are_spelled.ensures.number c.parts_are_joined.ensures.joined line swatch, spelled_swatch c.numbers_are_spelled.ensures.number c.parts_are_joined.ensures.parted line swatch)

pub returns-clause-one : goal.returns-clause-one
returns-clause-one c =
    λ line a b s t.
    let x = spelled_swatch c.numbers_are_spelled.ensures.number c.parts_are_joined.ensures.parted line a s in
    let y = spelled_swatch c.numbers_are_spelled.ensures.number c.parts_are_joined.ensures.parted line b t in
    cc

pub returns-clause-bad : goal.returns-clause-bad
returns-clause-bad c =
    λ line. (bad-to c.numbers_are_spelled.ensures.number c.parts_are_joined.ensures.parted line, bad-from c.numbers_are_spelled.ensures.number c.parts_are_joined.ensures.joined line)
