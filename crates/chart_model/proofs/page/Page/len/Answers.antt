use Rattle.std.proofs.Common.{length, ap, ◌∙◌, sym}
use Rattle.std.specs.FinMap as map
use Rattle.chart_model.specs.Names.{name_cmp}
use Rattle.chart_model.proofs.page.Page.len.Goals as goal

pub returns : goal.returns
returns g c =
    c.len.ensures
    ∙ c.self.inside.entries.ok.0
    ∙ ap length (sym (map.entries-from_sorted name_cmp _ c.self.invariant))
    ∙ sym (map.len-entries _)
    ∙ ap map.len c.self.view_is
