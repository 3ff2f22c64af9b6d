-- The catalogue isn't taken, or the table comes behind it.
use Rattle.command_words.specs.Reading.{value_of}
use Rattle.ecdis_cli.proofs.Opening.{rose-later}
use Rattle.ecdis_cli.proofs.Tables.{ended-failed, words-behind, words-stopped}
use Rattle.ecdis_cli.proofs.run.tables.fetch_tables.Goals as goal

pub returns-in-Err-clause-found : goal.returns-in-Err-clause-found
returns-in-Err-clause-found g c =
    λ t. words-stopped (g.L.Shelf.files c.args.shelf.now) (value_of c.args.words.now) c.as_str.result.now c.in-Err.stop c.of_file.result c.as_str.ensures.value c.of_file.ensures
    (c.in-Err.ensures.found t)

pub returns-in-Err-clause-ends : goal.returns-in-Err-clause-ends
returns-in-Err-clause-ends g c =
    (0, c.in-Err.stop, c.of_file.ensures)

pub returns-in-Err-clause-failed : goal.returns-in-Err-clause-failed
returns-in-Err-clause-failed g c =
    ended-failed 0 c.in-Err.stop c.of_file.result c.of_file.ensures c.in-Err.ensures.failed

pub returns-clause-found : goal.returns-clause-found
returns-clause-found g c =
    words-behind g.L.Shelf.tells (g.L.Shelf.files c.args.shelf.now) (g.L.Shelf.files c.fetch_catalogue.new.shelf) (value_of c.args.words.now) c.as_str.result.now c.as_str-2.result.now c.in-Ok.catalogue c.take_table.result
    c.as_str.ensures.value c.as_str-2.ensures.value c.fetch_catalogue.ensures.keeps.files_stay c.in-Ok.ensures.found c.take_table.ensures.found

pub returns-clause-failed : goal.returns-clause-failed
returns-clause-failed g c =
    λ is. rose-later 1 _ _ _ c.fetch_catalogue.ensures.keeps.later (c.take_table.ensures.failed is)
