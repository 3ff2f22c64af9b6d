use Rattle.std.proofs.Common.{Some, ap, sym, ◌∙◌}
use Rattle.std.specs.Option.{option_copied}
use Rattle.chart_model.proofs.PageNames.{page_cmp-total}
use Rattle.chart_model.proofs.SharedTrees.{valued, get-values}
use Rattle.chart_model.proofs.page_map.PageMap.get.Goals as goal

pub returns-in-Some : goal.returns-in-Some
returns-in-Some g c =
    ap Some c.as_ref.ensures
    ∙ ap valued (ap option_copied (sym c.in-Some.is) ∙ c.get.ensures.value)
    ∙ get-values page_cmp-total _ _ _ c.self.view_is

pub returns-in-None : goal.returns-in-None
returns-in-None g c =
    ap valued (ap option_copied (sym c.in-None.is) ∙ c.get.ensures.value)
    ∙ get-values page_cmp-total _ _ _ c.self.view_is
