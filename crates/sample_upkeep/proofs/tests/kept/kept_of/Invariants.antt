-- the counter's ledger is that of its blank
use Rattle.sample_upkeep.proofs.tests.kept.kept_of.Given as goal

abbrev pub ghosts-users_with : goal.ghosts-users_with
ghosts-users_with a = record { name = a.blank.name; parts = a.blank.parts }
