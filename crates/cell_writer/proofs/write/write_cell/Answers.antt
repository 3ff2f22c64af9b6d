use Rattle.std.proofs.Common.{subst}
use Rattle.chart_model.specs.Cell.{IsCell}
use Rattle.cell_writer.proofs.BaseFile.{written-back}
use Rattle.cell_writer.proofs.ListsRead.{lists-read}
use Rattle.cell_writer.proofs.RecordsRead.{file-read}
use Rattle.cell_writer.proofs.write.write_cell.Goals as goal

pub returns-clause-reads_back : goal.returns-clause-reads_back
returns-clause-reads_back c = λ closed.
    written-back c.first_is_least.ensures.none (file-read lists-read c.files_are_read.ensures.given)
    c.args.cell.now c.spell_cell.result (subst IsCell c.cell.view_is c.cell.invariant) c.spell_cell.ensures.in_range c.spell_cell.ensures.exact closed
