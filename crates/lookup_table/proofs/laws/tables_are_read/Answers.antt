use Rattle.lookup_table.proofs.Spelled.{line_spelled, spelled_line}
use Rattle.lookup_table.proofs.laws.tables_are_read.Goals as goal

pub returns-clause-line : goal.returns-clause-line
returns-clause-line c =
    λ text line. (line_spelled text line, spelled_line c.parts_are_joined.ensures.parted c.parts_are_joined.ensures.first text line)

pub returns-clause-one : goal.returns-clause-one
returns-clause-one c =
    λ text a b s t.
    let x = spelled_line c.parts_are_joined.ensures.parted c.parts_are_joined.ensures.first text a s in
    let y = spelled_line c.parts_are_joined.ensures.parted c.parts_are_joined.ensures.first text b t in
    cc
