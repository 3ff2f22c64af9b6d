use Rattle.std.proofs.Common.{[]}
use Rattle.cell_bytes.specs.Descriptive.{descriptive_record}
use Rattle.cell_bytes.specs.Layouts.{layouts, tags_read}
use Rattle.cell_bytes.proofs.DescriptiveReading.{computed, described}
use Rattle.cell_bytes.proofs.laws.the_descriptive_record_is_read.Goals as goal

pub returns : goal.returns
returns c =
    described (c.reads_each.ensures.given tags_read descriptive_record (record { descriptors = layouts; records = [] }) computed)
