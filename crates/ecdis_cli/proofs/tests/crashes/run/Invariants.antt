-- the counter's ledger is that of its blank
use Rattle.ecdis_cli.proofs.tests.crashes.run.Given as goal

abbrev pub ghosts-run_with : goal.ghosts-run_with
ghosts-run_with a = record { name = a.blank.name; parts = a.blank.parts }
