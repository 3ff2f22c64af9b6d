use Rattle.cell_bytes.proofs.FieldSpellings.{attributes-spelled, feature_identifier-spelled, feature_pointers-spelled}
use Rattle.cell_bytes.proofs.FieldSpellings.{foid-spelled, points-spelled, related-spelled, soundings-spelled}
use Rattle.cell_bytes.proofs.FieldSpellings.{vector_identifier-spelled, vector_pointers-spelled}
use Rattle.cell_bytes.proofs.laws.fields_are_spelled.Goals as goal

pub returns : goal.returns
returns c = record {
  vector_identifier = vector_identifier-spelled;
  attributes = attributes-spelled;
  vector_pointers = vector_pointers-spelled;
  points = points-spelled;
  soundings = soundings-spelled;
  feature_identifier = feature_identifier-spelled;
  object = foid-spelled;
  related = related-spelled;
  feature_pointers = feature_pointers-spelled;
}
