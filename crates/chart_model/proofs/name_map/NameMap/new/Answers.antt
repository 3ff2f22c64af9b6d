use Rattle.std.proofs.Common.{ap, sym, ◌∙◌, subst}
use Rattle.std.specs.FinMap as map
use Rattle.chart_model.specs.Names.{name_cmp}
use Rattle.chart_model.specs.Pages.{names_of, IsPaged}
use Rattle.chart_model.proofs.Pages.{ArePages-empty, names-empty}
use Rattle.chart_model.proofs.name_map.NameMap.new.Goals as goal

pub invariant_of-result : goal.invariant_of-result
invariant_of-result g c =
    subst (λ pages. IsPaged pages 0) (sym c.new.ensures)
    (record { each = ArePages-empty g.row.V.Denot; counted = sym (ap map.len (names-empty g.row.V.Denot) ∙ map.len-empty name_cmp g.row.V.Denot) })

pub returns : goal.returns
returns g c = ap names_of c.new.ensures ∙ names-empty g.row.V.Denot
