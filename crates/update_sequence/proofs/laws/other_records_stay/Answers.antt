use Rattle.update_sequence.proofs.OtherRecords.{others-stay}
use Rattle.update_sequence.proofs.laws.other_records_stay.Goals as goal

pub returns : goal.returns
returns c = others-stay
