-- the counter's ledger is that of its blank
use Rattle.sample_catalogues.proofs.tests.files.read.Given as goal

abbrev pub ghosts-read_with : goal.ghosts-read_with
ghosts-read_with a = record { name = a.blank.name; parts = a.blank.parts }
