use Rattle.std.proofs.Common.{T, ap, subst, sym, ◌∙◌}
use Rattle.chart_model.proofs.SortedEntries.{less}
use Rattle.panel_port.specs.PanelKey.{panel_key_cmp}
use Rattle.panel_port.proofs.PanelEntries.{all-below}
use Rattle.panel_port.proofs.block_map.is_behind.Goals as goal

pub returns-in-Some : goal.returns-in-Some
returns-in-Some c so =
    let item = c.in-Some.ensures.item.3 in
    all-below c.args.entries.now c.args.key c.requires item.0
    (λ d.
    ap (λ e. panel_key_cmp e.0 c.args.key) (sym (item.1 d))
    ∙ sym c.cmp.ensures
    ∙ less _ (subst T (sym (sym c.is_lt.ensures ∙ so)) tt))
