use Rattle.iso8211_formats.proofs.Fields.{reads_spelled, refuses_others}
use Rattle.iso8211_formats.proofs.field.read_descriptor.Goals as goal

pub returns-clause-read : goal.returns-clause-read
returns-clause-read c = rw c.ok_or.ensures.value (reads_spelled c.args.field.now c.read.result c.read.ensures)

pub returns-clause-bad : goal.returns-clause-bad
returns-clause-bad c = rw c.ok_or.ensures.value (refuses_others c.args.field.now c.read.result c.read.ensures)
