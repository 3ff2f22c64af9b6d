use Rattle.iso8211_records.proofs.FileLaws.{record_file-fault, record_file-faulty}
use Rattle.iso8211_records.proofs.laws.faults_each.Goals as goal

pub returns-clause-given : goal.returns-clause-given
returns-clause-given c = λ tags bytes fault h. record_file-fault c.reading_is_spelling.ensures tags bytes fault h

pub returns-clause-each : goal.returns-clause-each
returns-clause-each c = λ tags bytes number fault h. record_file-faulty c.reading_is_spelling.ensures tags bytes number fault h
