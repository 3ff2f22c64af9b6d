use Rattle.std.proofs.Common.{◌∙◌}
use Rattle.std.specs.FinMap as map
use Rattle.std.proofs.lemmas.Result.{IfOk-equal}
use Rattle.page_parts.specs.Lists.{rising_entries}
use Rattle.page_parts.specs.Attributes.{attribute, attributes}
use Rattle.page_parts.proofs.RisingRead.{counted_list_behind, len_is}
use Rattle.page_parts.proofs.attributes.put_attributes.Goals as goal

pub returns-clause-bytes : goal.returns-clause-bytes
unfolding attributes rising_entries
returns-clause-bytes c =
    IfOk-equal c.put_each.result _ _ _ c.put_each.ensures.bytes
    (counted_list_behind attribute (map.entries c.args.attrs.now) c.len.result c.args.out.now c.put_eight_bytes.new.out c.in_ok-put_eight_bytes.ensures.bytes (c.len.ensures ∙ len_is c.args.attrs.now))
