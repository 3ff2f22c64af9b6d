use Rattle.std.proofs.Common.{ap, sym, ◌∙◌}
use Rattle.std.specs.FinMap as map
use Rattle.chart_model.proofs.Pages.{get-names, on_page, placed}
use Rattle.chart_model.proofs.name_map.NameMap.get.Goals as goal

pub returns-in-Some : goal.returns-in-Some
returns-in-Some g c =
    c.value_on.ensures
    ∙ ap (on_page c.args.name) (c.in-Some.ensures ∙ ap (map.get c.self.inside.pages) c.of.ensures)
    ∙ sym (get-names c.self.inside.pages (placed c.self.inside.pages c.self.invariant.each) c.args.name)
    ∙ ap (λ m. map.get m c.args.name) c.self.view_is

pub returns-in-None : goal.returns-in-None
returns-in-None g c =
    ap (on_page c.args.name) (c.in-None.ensures ∙ ap (map.get c.self.inside.pages) c.of.ensures)
    ∙ sym (get-names c.self.inside.pages (placed c.self.inside.pages c.self.invariant.each) c.args.name)
    ∙ ap (λ m. map.get m c.args.name) c.self.view_is
