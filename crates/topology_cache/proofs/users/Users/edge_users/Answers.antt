use Rattle.std.proofs.Common.{sym, ap, ◌∙◌}
use Rattle.std.specs.Option.{option_copied, unwrap_or}
use Rattle.std.specs.FinMap as finite
use Rattle.chart_model.proofs.Names.{name_cmp-total}
use Rattle.chart_model.proofs.Trees.{get-seen}
use Rattle.topology_cache.proofs.NameSets.{keys-empty}
use Rattle.topology_cache.proofs.users.Users.edge_users.Goals as goal

pub returns-in-Some : goal.returns-in-Some
returns-in-Some c =
    c.as_slice.ensures
    ∙ ap (λ o. finite.keys (unwrap_or o finite.empty))
    (ap option_copied (sym c.in-Some.is) ∙ c.get.ensures.value ∙ get-seen name_cmp-total _ _ _ c.self.view_is)

pub returns-in-None : goal.returns-in-None
returns-in-None c =
    sym keys-empty
    ∙ ap (λ o. finite.keys (unwrap_or o finite.empty))
    (ap option_copied (sym c.in-None.is) ∙ c.get.ensures.value ∙ get-seen name_cmp-total _ _ _ c.self.view_is)
