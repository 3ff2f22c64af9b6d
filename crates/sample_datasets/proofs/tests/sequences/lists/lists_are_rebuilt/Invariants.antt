-- the counter's ledger is that of its blank
use Rattle.sample_datasets.proofs.tests.sequences.lists.lists_are_rebuilt.Given as goal

abbrev pub ghosts-rebuilt : goal.ghosts-rebuilt
ghosts-rebuilt g a = record { name = a.blank.name; parts = a.blank.parts }
