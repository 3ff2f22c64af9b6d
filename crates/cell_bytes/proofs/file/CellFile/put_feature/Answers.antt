use Rattle.std.proofs.Common.{◌∙◌}
use Rattle.cell_bytes.proofs.RecordFaults.{feature_made}
use Rattle.cell_bytes.proofs.file.CellFile.put_feature.Goals as goal

pub returns-clause-fault : goal.returns-clause-fault
returns-clause-fault c =
    c.fault_of.ensures
    ∙ feature_made c.args.name c.args.feature.now c.args.self.now.number c.draft_feature.new.draft.fields c.in_ok-bytes.bytes
    c.in_ok-bytes.ensures.length c.in_ok-draft_feature.ensures.fields
