use Rattle.std.proofs.Common.{ap, sym, ◌∙◌}
use Rattle.std.specs.FinMap as map
use Rattle.chart_model.proofs.name_map.NameMap.insert_counted.Goals as goal

pub invariant_of-self-2 : goal.invariant_of-self-2
invariant_of-self-2 g c = record {
  each = c.in_ok-put_on_page.ensures.paged;
  counted =
      c.requires
      ∙ (λ i. map.len (map.insert (sym c.self.view_is i) c.args.name (sym c.in_ok-value.ensures i)))
      ∙ ap map.len (sym c.in_ok-put_on_page.ensures.ok);
}
