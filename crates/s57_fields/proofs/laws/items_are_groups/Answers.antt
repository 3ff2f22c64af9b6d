use Rattle.s57_fields.proofs.Items.{attributes-items, vector_pointers-items, feature_pointers-items}
use Rattle.s57_fields.proofs.Items.{coordinates-items, soundings-items, related-items}
use Rattle.s57_fields.proofs.laws.items_are_groups.Goals as goal

pub returns-clause-attributes : goal.returns-clause-attributes
returns-clause-attributes c = attributes-items

pub returns-clause-vector_pointers : goal.returns-clause-vector_pointers
returns-clause-vector_pointers c = vector_pointers-items

pub returns-clause-feature_pointers : goal.returns-clause-feature_pointers
returns-clause-feature_pointers c = feature_pointers-items

pub returns-clause-coordinates : goal.returns-clause-coordinates
returns-clause-coordinates c = coordinates-items

pub returns-clause-soundings : goal.returns-clause-soundings
returns-clause-soundings c = soundings-items

pub returns-clause-related : goal.returns-clause-related
returns-clause-related c = related-items
