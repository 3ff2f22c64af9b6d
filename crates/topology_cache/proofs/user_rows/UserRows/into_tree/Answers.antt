use Rattle.std.proofs.Common.{◌∙◌}
use Rattle.std.specs.BTreeMap.{IsFromIterResult}
use Rattle.std.proofs.lemmas.Result.{IfOk-weaker}
use Rattle.std.proofs.lemmas.Iterator.Adapters.{YieldsList-from_vec, fact_from_collect}
use Rattle.chart_model.specs.Names.{name_cmp}
use Rattle.topology_cache.proofs.Rows.{tree-made}
use Rattle.topology_cache.proofs.user_rows.UserRows.into_tree.Goals as goal

pub returns-clause-same : goal.returns-clause-same
returns-clause-same c =
    IfOk-weaker c.collect.result (IsFromIterResult name_cmp c.self.inside.rows.items) _
    (λ tree made. tree-made c.self.inside.rows.items tree.entries c.self.invariant.sorted made.0 ∙ c.self.view_is)
    (fact_from_collect (IsFromIterResult name_cmp) c.collect.result c.collect.ensures.ran
    (YieldsList-from_vec c.self.inside.rows.items c.into_iter.ensures.rest
    (c.into_iter.ensures.len ∙ c.self.inside.rows.ok.0)))
