use Rattle.iso8211_records.proofs.Answering.{answer-ok, answer-err, answer-is, answer-counted}
use Rattle.iso8211_records.specs.RecordFile.{IsRecordFile, data_records_in}
use Rattle.iso8211_records.specs.Fault.{HasFault}
use Rattle.iso8211_records.proofs.file.read_file.Goals as goal

pub returns-clause-reading : goal.returns-clause-reading
returns-clause-reading g c = answer-ok (λ file. IsRecordFile c.args.tags.now c.args.bytes.now file) _ _ c.read_all.ensures.read (λ file h. c.reads_each.ensures.given _ _ file h)

pub returns-clause-read : goal.returns-clause-read
returns-clause-read g c = λ file is. answer-is _ _ _ c.read_all.ensures.read (c.reads_each.ensures.each _ _ file is)

pub returns-clause-fault : goal.returns-clause-fault
returns-clause-fault g c =
    answer-err (λ fault. HasFault c.args.tags.now c.args.bytes.now (data_records_in c.args.tags.now c.args.bytes.now) fault) _ _ c.read_all.ensures.read (λ fault h. c.faults_each.ensures.given _ _ fault h)

pub returns-clause-refused : goal.returns-clause-refused
returns-clause-refused g c = λ number fault is. answer-is _ _ _ c.read_all.ensures.read (c.faults_each.ensures.each _ _ number fault is).0

pub returns-clause-counted : goal.returns-clause-counted
returns-clause-counted g c = answer-counted _ _ _ _ _ c.read_all.ensures.read c.read_all.ensures.come_to (λ file h. c.reads_each.ensures.counted _ _ file h)
