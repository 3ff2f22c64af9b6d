use Rattle.std.proofs.Common.{ap, ◌∙◌, sym, length}
use Rattle.std.proofs.lemmas.List.{length-map}
use Rattle.std.specs.Ordering.{nat_cmp}
use Rattle.std.specs.FinMap as map
use Rattle.chart_model.proofs.attr_map.AttrMap.len.Goals as goal

pub returns : goal.returns
returns c =
    c.len.ensures
    ∙ c.self.inside.attrs.ok.0
    ∙ sym (length-map c.self.inside.attrs.items _)
    ∙ ap length (sym (map.entries-from_sorted nat_cmp _ c.self.invariant))
    ∙ sym (map.len-entries _)
    ∙ ap map.len c.self.view_is
