use Rattle.std.proofs.Common.{◌≡◌, sym, ◌∙◌, Ok, Err}
use Rattle.iso8211_records.proofs.laws.never_both.Goals as goal

pub returns : goal.returns
returns c = λ tags bytes file number fault h k.
    let p = c.faults_each.ensures.each tags bytes number fault k in
    let no : Ok file ≡ Err fault = sym (c.reads_each.ensures.each tags bytes file h) ∙ p.0 in
    cc
