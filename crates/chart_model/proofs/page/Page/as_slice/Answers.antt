use Rattle.std.proofs.Common.{ap, ◌∙◌, sym}
use Rattle.std.specs.FinMap as map
use Rattle.chart_model.specs.Names.{name_cmp}
use Rattle.chart_model.proofs.page.Page.as_slice.Goals as goal

pub returns : goal.returns
returns g c =
    c.as_slice.ensures.value
    ∙ sym (map.entries-from_sorted name_cmp _ c.self.invariant)
    ∙ ap map.entries c.self.view_is
