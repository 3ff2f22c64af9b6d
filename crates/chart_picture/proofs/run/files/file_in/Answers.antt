use Rattle.std.proofs.Common.{ap}
use Rattle.chart_picture.specs.Files.{file_in}
use Rattle.chart_picture.proofs.Ends.{refused-read}
use Rattle.chart_picture.proofs.run.files.file_in.Goals as goal

pub returns-in-Absent : goal.returns-in-Absent
returns-in-Absent c =
    refused-read c.args.place c.args.name.now _ c.refused.result _ c.refused.ensures
    (ap (file_in c.args.place c.args.name.now c.args.limit) c.in-Absent.is)

pub returns-in-Long : goal.returns-in-Long
returns-in-Long c =
    refused-read c.args.place c.args.name.now _ c.refused-in-Long.result _ c.refused-in-Long.ensures
    (ap (file_in c.args.place c.args.name.now c.args.limit) c.in-Long.is)
