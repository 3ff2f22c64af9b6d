-- the counter's ledger is that of its blank
use Rattle.sample_upkeep.proofs.tests.kept.updated.Given as goal

abbrev pub ghosts-absorb_users : goal.ghosts-absorb_users
ghosts-absorb_users a = record { name = a.blank.name; parts = a.blank.parts }
