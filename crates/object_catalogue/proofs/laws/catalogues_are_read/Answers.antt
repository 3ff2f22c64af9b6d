use Rattle.object_catalogue.proofs.Entries.{entry_spelled, spelled_entry, bad-to, bad-from}
use Rattle.object_catalogue.proofs.laws.catalogues_are_read.Goals as goal

pub returns-clause-entry : goal.returns-clause-entry
returns-clause-entry c =
    λ line entry. (entry_spelled c.numbers_are_spelled.ensures.number c.parts_are_joined.ensures.joined line entry, spelled_entry c.numbers_are_spelled.ensures.number c.parts_are_joined.ensures.parted line entry)

pub returns-clause-one : goal.returns-clause-one
returns-clause-one c =
    λ line a b s t.
    let x = spelled_entry c.numbers_are_spelled.ensures.number c.parts_are_joined.ensures.parted line a s in
    let y = spelled_entry c.numbers_are_spelled.ensures.number c.parts_are_joined.ensures.parted line b t in
    cc

pub returns-clause-bad : goal.returns-clause-bad
returns-clause-bad c =
    λ line. (bad-to c.numbers_are_spelled.ensures.number c.parts_are_joined.ensures.parted line, bad-from c.numbers_are_spelled.ensures.number c.parts_are_joined.ensures.joined line)
