use Rattle.iso8211_formats.proofs.Fields.{one_layout}
use Rattle.iso8211_formats.proofs.field.one_descriptor.Goals as goal

pub returns : goal.returns
returns c = one_layout
