use Rattle.update_sequence.proofs.NamedRecords.{named-differ}
use Rattle.update_sequence.proofs.laws.named_records_differ.Goals as goal

pub returns : goal.returns
returns c = named-differ
