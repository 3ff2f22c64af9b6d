use Rattle.std.proofs.Common.{◌∙◌}
use Rattle.cell_bytes.proofs.RecordFaults.{vector_made}
use Rattle.cell_bytes.proofs.file.CellFile.put_vector.Goals as goal

pub returns-clause-fault : goal.returns-clause-fault
returns-clause-fault c =
    c.fault_of.ensures
    ∙ vector_made c.args.name c.args.vector.now c.args.self.now.number c.draft_vector.new.draft.fields c.in_ok-bytes.bytes
    c.in_ok-bytes.ensures.length c.in_ok-draft_vector.ensures.fields
