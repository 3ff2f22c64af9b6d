-- the counter's ledger is that of its blank
use Rattle.ecdis_cli.proofs.tests.tables.ended.Given as goal

abbrev pub ghosts-ended_by : goal.ghosts-ended_by
ghosts-ended_by a = record { name = a.blank.name; parts = a.blank.parts }
