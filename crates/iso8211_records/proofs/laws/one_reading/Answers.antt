use Rattle.std.proofs.Common.{sym, ◌∙◌}
use Rattle.iso8211_records.proofs.FileLaws.{ok_is}
use Rattle.iso8211_records.proofs.laws.one_reading.Goals as goal

pub returns : goal.returns
returns c = λ tags bytes file other h k. ok_is (sym (c.reads_each.ensures.each tags bytes file h) ∙ c.reads_each.ensures.each tags bytes other k)
