use Rattle.std.proofs.Common.{◌-◌}
use Rattle.std.specs.Ordering.{nat_cmp}
use Rattle.std.specs.Cmp.{nat_cmp_total}
use Rattle.page_parts.specs.Attributes.{attribute_at}
use Rattle.page_parts.proofs.RisingRead.{GoesOn}
use Rattle.page_parts.proofs.attributes.read_each.Given as goal

abbrev pub invariant-loop : goal.invariant-loop
invariant-loop l = GoesOn nat_cmp nat_cmp_total attribute_at l.count l.bytes l.last l.attrs (l.count - l.counter) l.rest
