use Rattle.cell_bytes.specs.Layouts.{layouts, tags_read}
use Rattle.cell_bytes.specs.RecordsRead.{records_read}
use Rattle.cell_bytes.proofs.FileReading.{file_read}
use Rattle.cell_bytes.proofs.laws.files_are_read.Goals as goal

pub returns-clause-is : goal.returns-clause-is
returns-clause-is c = file_read c.the_descriptive_record_is_read.ensures

pub returns-clause-given : goal.returns-clause-given
returns-clause-given c = λ cell file range whole.
    c.reads_each.ensures.each tags_read file (record { descriptors = layouts; records = records_read cell })
    (file_read c.the_descriptive_record_is_read.ensures cell file range whole)
