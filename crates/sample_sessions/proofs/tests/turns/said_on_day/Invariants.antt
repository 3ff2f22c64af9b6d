-- the counter's ledger is that of its blank
use Rattle.sample_sessions.proofs.tests.turns.said_on_day.Given as goal

abbrev pub ghosts-replies_with : goal.ghosts-replies_with
ghosts-replies_with a = record { name = a.blank.name; parts = a.blank.parts }
