use Rattle.std.proofs.Common.{T, ap, subst, sym, ◌∙◌}
use Rattle.chart_model.specs.Names.{name_cmp}
use Rattle.chart_model.proofs.SortedEntries.{less}
use Rattle.chart_model.proofs.PageBlocks.{all-below}
use Rattle.chart_model.proofs.page.is_behind.Goals as goal

pub returns-in-Some : goal.returns-in-Some
returns-in-Some g c so =
    let item = c.in-Some.ensures.item.3 in
    all-below c.args.entries.now c.args.name c.requires item.0
    (λ d. ap (λ e. name_cmp e.0 c.args.name) (sym (item.1 d)) ∙ sym c.cmp.ensures ∙ less _ (subst T (sym (sym c.is_lt.ensures ∙ so)) tt))
