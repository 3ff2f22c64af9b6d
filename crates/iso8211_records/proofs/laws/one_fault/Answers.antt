use Rattle.std.proofs.Common.{sym, ◌∙◌}
use Rattle.iso8211_records.specs.FileValue.{FileValue}
use Rattle.iso8211_records.proofs.Results.{err_is}
use Rattle.iso8211_records.proofs.laws.one_fault.Goals as goal

pub returns : goal.returns
returns c = λ tags bytes number count fault other h k.
    let p = c.faults_each.ensures.each tags bytes number fault h in
    let q = c.faults_each.ensures.each tags bytes count other k in
    (sym p.1 ∙ q.1, err_is {A = FileValue} (sym p.0 ∙ q.0))
