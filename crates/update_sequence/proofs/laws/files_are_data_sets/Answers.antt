use Rattle.iso8211_records.specs.Kinds.{layout_at}
use Rattle.update_sequence.proofs.DataSets.{data_set_in-ok}
use Rattle.update_sequence.proofs.laws.files_are_data_sets.Goals as goal

pub returns-clause-kept : goal.returns-clause-kept
returns-clause-kept c = λ bytes dataset e.
    let f = data_set_in-ok bytes dataset e in
    c.data_sets_are_kept.ensures (layout_at f.0.descriptors) f.0.records dataset f.1

pub returns-clause-changes : goal.returns-clause-changes
returns-clause-changes c = λ bytes dataset e.
    let f = data_set_in-ok bytes dataset e in
    c.changes_are_kept.ensures.each (layout_at f.0.descriptors) f.0.records dataset f.1
