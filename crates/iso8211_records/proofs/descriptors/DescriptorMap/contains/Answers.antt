use Rattle.std.proofs.Common.{◌∙◌, ap}
use Rattle.std.specs.Prelude.{is_some}
use Rattle.iso8211_records.proofs.Tagged.{is_some-copied}
use Rattle.iso8211_records.proofs.descriptors.DescriptorMap.contains.Goals as goal

pub returns : goal.returns
returns c = c.is_some.ensures ∙ is_some-copied c.get.result ∙ ap is_some c.get.ensures
