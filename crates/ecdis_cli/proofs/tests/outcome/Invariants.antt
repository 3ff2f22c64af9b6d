-- the counter's ledger is that of its blank
use Rattle.ecdis_cli.proofs.tests.outcome.Given as goal

abbrev pub ghosts-outcome_of : goal.ghosts-outcome_of
ghosts-outcome_of a = record { name = a.blank.name; parts = a.blank.parts }
