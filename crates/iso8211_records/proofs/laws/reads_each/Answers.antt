use Rattle.iso8211_records.proofs.FileLaws.{record_file-found, record_file-again}
use Rattle.iso8211_records.proofs.laws.reads_each.Goals as goal

pub returns-clause-given : goal.returns-clause-given
returns-clause-given c = λ tags bytes file h. (record_file-found c.reading_is_spelling.ensures tags bytes file h).0

pub returns-clause-each : goal.returns-clause-each
returns-clause-each c = λ tags bytes file h. record_file-again c.reading_is_spelling.ensures tags bytes file h

pub returns-clause-counted : goal.returns-clause-counted
returns-clause-counted c = λ tags bytes file h. (record_file-found c.reading_is_spelling.ensures tags bytes file h).1
