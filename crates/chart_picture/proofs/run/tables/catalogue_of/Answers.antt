use Rattle.chart_picture.proofs.Reading.{catalogue-done, catalogue-refused}
use Rattle.chart_picture.proofs.run.tables.catalogue_of.Goals as goal

pub returns-in-Ok : goal.returns-in-Ok
returns-in-Ok c = catalogue-done c.args.bytes.now c.in-Ok.catalogue c.in-Ok.ensures

pub returns-in-Err : goal.returns-in-Err
returns-in-Err c = catalogue-refused c.args.bytes.now c.in-Err.fault c.end_of_catalogue.result c.in-Err.ensures c.end_of_catalogue.ensures
