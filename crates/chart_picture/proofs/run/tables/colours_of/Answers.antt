use Rattle.chart_picture.proofs.Reading.{colours-done, colours-refused}
use Rattle.chart_picture.proofs.run.tables.colours_of.Goals as goal

pub returns-in-Ok : goal.returns-in-Ok
returns-in-Ok c = colours-done c.args.bytes.now c.in-Ok.colours c.in-Ok.ensures

pub returns-in-Err : goal.returns-in-Err
returns-in-Err c = colours-refused c.args.bytes.now c.in-Err.fault c.end_of_colours.result c.in-Err.ensures c.end_of_colours.ensures
