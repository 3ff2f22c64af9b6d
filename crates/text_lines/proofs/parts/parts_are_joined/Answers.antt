use Rattle.std.proofs.lemmas.List.Splits.{join_with_byte-slice_split}
use Rattle.text_lines.proofs.Parting.{first_part, one_part, joined_parts, lacking_parts}
use Rattle.text_lines.proofs.parts.parts_are_joined.Goals as goal

pub returns-clause-joined : goal.returns-clause-joined
returns-clause-joined c = join_with_byte-slice_split

pub returns-clause-first : goal.returns-clause-first
returns-clause-first c = first_part

pub returns-clause-alone : goal.returns-clause-alone
returns-clause-alone c = one_part

pub returns-clause-parted : goal.returns-clause-parted
returns-clause-parted c = joined_parts

pub returns-clause-lacking : goal.returns-clause-lacking
returns-clause-lacking c = lacking_parts
