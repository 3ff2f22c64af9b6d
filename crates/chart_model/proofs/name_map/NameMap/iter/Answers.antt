use Rattle.std.proofs.Common.{ap, sym, ◌∙◌, subst}
use Rattle.std.specs.FinMap as map
use Rattle.chart_model.specs.Pages.{flatten, AreFull}
use Rattle.chart_model.proofs.Pages.{placed, entries-names, AreFull-pages}
use Rattle.chart_model.proofs.name_map.NameMap.iter.Goals as goal

pub over-requires : goal.over-requires
over-requires g c = subst AreFull (sym c.iter.ensures) (AreFull-pages c.self.inside.pages c.self.invariant.each)

pub returns-clause-entries : goal.returns-clause-entries
returns-clause-entries g c =
    c.over.ensures
    ∙ ap flatten c.iter.ensures
    ∙ sym (entries-names c.self.inside.pages (placed c.self.inside.pages c.self.invariant.each))
    ∙ ap map.entries c.self.view_is
