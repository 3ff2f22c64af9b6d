use Rattle.s57_records.proofs.Changes.{vector_is_plain, feature_is_plain}
use Rattle.s57_records.specs.LayoutReadings.{subfields_of}
use Rattle.s57_records.proofs.laws.base_records_insert.Goals as goal

pub returns-clause-vector : goal.returns-clause-vector
returns-clause-vector c = λ layouts n fields change e. vector_is_plain n (subfields_of layouts n fields) change e

pub returns-clause-feature : goal.returns-clause-feature
returns-clause-feature c = λ layouts n fields change e. feature_is_plain n (subfields_of layouts n fields) change e
