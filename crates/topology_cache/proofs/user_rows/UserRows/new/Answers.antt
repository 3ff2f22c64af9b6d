use Rattle.std.proofs.Common.{List, sym, ap, subst, ◌∙◌}
use Rattle.std.specs.FinMap as finite
use Rattle.chart_model.specs.declared.name.Name.{Name}
use Rattle.chart_model.specs.Names.{name_cmp}
use Rattle.topology_cache.specs.Users.{Names}
use Rattle.topology_cache.specs.Sets.{AreUserRows}
use Rattle.topology_cache.proofs.Rows.{no-rows, no-user-rows}
use Rattle.topology_cache.proofs.user_rows.UserRows.new.Goals as goal

pub invariant_of-result : goal.invariant_of-result
invariant_of-result c = subst AreUserRows (sym c.new.ensures.items) no-user-rows

pub returns : goal.returns
returns c = ap (λ (rows : List (Name × Names)). finite.from_sorted {R = name_cmp} rows) c.new.ensures.items ∙ no-rows
