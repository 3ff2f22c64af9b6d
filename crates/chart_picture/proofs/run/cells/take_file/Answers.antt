use Rattle.chart_picture.proofs.Loading.{taken-done, taken-failed}
use Rattle.chart_picture.proofs.run.cells.take_file.Goals as goal

pub returns-in-Ok : goal.returns-in-Ok
returns-in-Ok g c = taken-done c.args.place c.args.name.now c.args.live c.args.file _ c.in-Ok.ensures.loaded

pub returns-in-Err : goal.returns-in-Err
returns-in-Err g c =
    taken-failed c.args.place c.args.name.now c.args.live c.args.file c.in-Err.fault c.load_end.result c.in-Err.ensures.loaded
    c.load_end.ensures
