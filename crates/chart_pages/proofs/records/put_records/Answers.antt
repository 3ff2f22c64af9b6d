use Rattle.std.proofs.Common.{◌∙◌, subst, ◌<◌, ◌^◌, ℕ}
use Rattle.std.specs.FinMap as map
use Rattle.std.proofs.lemmas.Result.{IfOk-equal, on_ok_weaker}
use Rattle.page_parts.specs.Lists.{rising_entries}
use Rattle.page_parts.proofs.RisingRead.{counted_list_behind, len_is}
use Rattle.chart_pages.proofs.records.put_records.Goals as goal

pub returns-clause-bytes : goal.returns-clause-bytes
unfolding rising_entries
returns-clause-bytes g c =
    IfOk-equal c.put_each.result _ _ _ c.put_each.ensures.bytes
    (counted_list_behind g.R.Record.spelling (map.entries c.args.records.now) c.len.result c.args.out.now c.put_eight_bytes.new.out c.in_ok-put_eight_bytes.ensures.bytes (c.len.ensures ∙ len_is c.args.records.now))

pub returns-clause-in_range : goal.returns-clause-in_range
returns-clause-in_range g c =
    on_ok_weaker c.put_each.result
    (λ each. record { count = subst (λ (n : ℕ). n < 2 ^ 64) (c.len.ensures ∙ len_is c.args.records.now) c.put_eight_bytes.ensures.width; each = each })
    c.put_each.ensures.in_range
