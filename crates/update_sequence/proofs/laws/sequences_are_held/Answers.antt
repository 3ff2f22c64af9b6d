use Rattle.update_sequence.proofs.Held.{sequence-held, sequence-closed}
use Rattle.update_sequence.proofs.laws.sequences_are_held.Goals as goal

pub returns-clause-held : goal.returns-clause-held
returns-clause-held c =
    sequence-held c.files_are_data_sets.ensures.kept c.files_are_data_sets.ensures.changes c.charts_are_closed.ensures c.charts_are_cells.ensures c.headers_follow.ensures.base c.headers_follow.ensures.update

pub returns-clause-closed : goal.returns-clause-closed
returns-clause-closed c =
    sequence-closed c.files_are_data_sets.ensures.kept c.files_are_data_sets.ensures.changes c.charts_are_closed.ensures c.charts_are_cells.ensures c.headers_follow.ensures.base c.headers_follow.ensures.update
