use Rattle.cell_bytes.proofs.FieldsRead.{feature_read, general_read, parameters_read, vector_read}
use Rattle.cell_bytes.proofs.laws.records_are_read.Goals as goal

pub returns : goal.returns
returns c =
    record { general = general_read; parameters = parameters_read; vectors = vector_read; features = feature_read }
