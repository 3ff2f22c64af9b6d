use Rattle.iso8211_formats.proofs.Fields.{descriptor_of_found, descriptor_of_again}
use Rattle.iso8211_formats.proofs.field.reading_is_spelling.Goals as goal

pub returns : goal.returns
returns c = λ field layout. (descriptor_of_found field layout, descriptor_of_again field layout)
