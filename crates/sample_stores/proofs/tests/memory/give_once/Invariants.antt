-- the counter's ledger is that of its blank
use Rattle.sample_stores.proofs.tests.memory.give_once.Given as goal

abbrev pub ghosts-give_with : goal.ghosts-give_with
ghosts-give_with a = record { name = a.blank.name; parts = a.blank.parts }
