-- the counter's ledger is that of its blank
use Rattle.sample_drawings.proofs.tests.users.find_users.Given as goal

abbrev pub ghosts-users_with : goal.ghosts-users_with
ghosts-users_with a = record { name = a.blank.name; parts = a.blank.parts }
