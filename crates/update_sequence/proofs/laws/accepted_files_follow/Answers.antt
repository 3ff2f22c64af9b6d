use Rattle.update_sequence.proofs.Accepted.{replaced, extended, cancelled_with}
use Rattle.update_sequence.proofs.laws.accepted_files_follow.Goals as goal

pub returns-clause-replaces : goal.returns-clause-replaces
returns-clause-replaces c =
    replaced c.files_are_data_sets.ensures.kept c.one_file_more.ensures.none c.one_file_more.ensures.held c.one_file_more.ensures.chart c.sequences_grow.ensures.first c.sequences_grow.ensures.next

pub returns-clause-extends : goal.returns-clause-extends
returns-clause-extends c =
    extended c.files_are_data_sets.ensures.kept c.one_file_more.ensures.none c.one_file_more.ensures.held c.one_file_more.ensures.chart c.sequences_grow.ensures.first c.sequences_grow.ensures.next

pub returns-clause-cancels : goal.returns-clause-cancels
returns-clause-cancels c =
    cancelled_with c.files_are_data_sets.ensures.kept c.one_file_more.ensures.none c.one_file_more.ensures.held c.one_file_more.ensures.chart c.sequences_grow.ensures.first c.sequences_grow.ensures.next
