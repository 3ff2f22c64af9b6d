use Rattle.s57_fields.proofs.Items.{attributes-faults, vector_pointers-faults, feature_pointers-faults}
use Rattle.s57_fields.proofs.Items.{coordinates-faults, soundings-faults, related-faults}
use Rattle.s57_fields.proofs.laws.faults_are_the_first.Goals as goal

pub returns-clause-attributes : goal.returns-clause-attributes
returns-clause-attributes c = attributes-faults

pub returns-clause-vector_pointers : goal.returns-clause-vector_pointers
returns-clause-vector_pointers c = vector_pointers-faults

pub returns-clause-feature_pointers : goal.returns-clause-feature_pointers
returns-clause-feature_pointers c = feature_pointers-faults

pub returns-clause-coordinates : goal.returns-clause-coordinates
returns-clause-coordinates c = coordinates-faults

pub returns-clause-soundings : goal.returns-clause-soundings
returns-clause-soundings c = soundings-faults

pub returns-clause-related : goal.returns-clause-related
returns-clause-related c = related-faults
