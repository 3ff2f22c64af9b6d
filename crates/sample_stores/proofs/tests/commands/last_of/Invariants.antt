-- the counter's ledger is that of its blank
use Rattle.sample_stores.proofs.tests.commands.last_of.Given as goal

abbrev pub ghosts-last_with : goal.ghosts-last_with
ghosts-last_with a = record { name = a.blank.name; parts = a.blank.parts }
