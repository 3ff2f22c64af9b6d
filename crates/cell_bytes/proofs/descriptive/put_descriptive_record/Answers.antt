-- The bytes that are written out are those that the definition composes.
use Rattle.cell_bytes.specs.Record.{digits, entries, entry, field, field_area, record_bytes, leader_of, record_of}
use Rattle.cell_bytes.specs.Descriptive.{descriptive_record}
use Rattle.cell_bytes.proofs.descriptive.put_descriptive_record.Goals as goal

pub returns : goal.returns
unfolding descriptive_record record_of record_bytes leader_of entries entry digits field_area field
returns c = c.extend_from_slice.ensures.ok
