use Rattle.s57_records.proofs.Changes.{vector_is_change, feature_is_change}
use Rattle.s57_records.proofs.KeptChanges.{changes_are}
use Rattle.s57_records.proofs.WithinLimits.{subfields_within, all_within}
use Rattle.s57_records.specs.LayoutReadings.{subfields_of, all_subfields}
use Rattle.s57_records.proofs.laws.changes_are_kept.Goals as goal

pub returns-clause-vector : goal.returns-clause-vector
returns-clause-vector c = λ base layouts n fields change e. vector_is_change base n (subfields_of layouts n fields) change (subfields_within layouts n fields) e

pub returns-clause-feature : goal.returns-clause-feature
returns-clause-feature c = λ base layouts n fields change e. feature_is_change base n (subfields_of layouts n fields) change (subfields_within layouts n fields) e

pub returns-clause-each : goal.returns-clause-each
returns-clause-each c = λ layouts records value e. changes_are (all_subfields layouts 1 records) value (all_within layouts 1 records) e
