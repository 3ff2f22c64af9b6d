-- the counter's ledger is that of its blank
use Rattle.sample_sessions.proofs.tests.kept.kept.Given as goal

abbrev pub ghosts-keeps_after : goal.ghosts-keeps_after
ghosts-keeps_after a = record { name = a.blank.name; parts = a.blank.parts }
