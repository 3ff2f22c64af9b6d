use Rattle.chart_picture.proofs.Reading.{lines-done, lines-refused}
use Rattle.chart_picture.proofs.run.tables.lines_of.Goals as goal

pub returns-in-Ok : goal.returns-in-Ok
returns-in-Ok c = lines-done c.args.catalogue.now c.args.bytes.now c.in-Ok.table c.in-Ok.ensures

pub returns-in-Err : goal.returns-in-Err
returns-in-Err c = lines-refused c.args.catalogue.now c.args.bytes.now c.in-Err.fault c.end_of_table.result c.in-Err.ensures c.end_of_table.ensures
