use Rattle.s57_records.proofs.Datasets.{dataset_is}
use Rattle.s57_records.proofs.WithinLimits.{all_within, all_keyed}
use Rattle.s57_records.specs.LayoutReadings.{all_subfields}
use Rattle.s57_records.proofs.laws.data_sets_are_kept.Goals as goal

pub returns : goal.returns
returns c = λ layouts records value e.
    dataset_is (all_subfields layouts 1 records) value
    (all_within layouts 1 records) (all_keyed c.keys_are_tested.ensures layouts 1 records) e
