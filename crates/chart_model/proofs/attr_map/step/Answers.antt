use Rattle.std.proofs.Common.{ap, sym, ◌∙◌}
use Rattle.chart_model.specs.Attrs.{attrs_of, attrs_after, keeps_first}
use Rattle.chart_model.proofs.SetOrders.{set-first}
use Rattle.chart_model.proofs.attr_map.step.Goals as goal

pub returns-in-Some-pop_front-clause-map : goal.returns-in-Some-pop_front-clause-map
returns-in-Some-pop_front-clause-map c =
    let kept = c.args.kept.now.items in
    let old = attrs_of c.args.attrs.now.items in
    let items = c.in-Some-pop_front.ensures.items in
    ap (λ m. attrs_after m kept c.pop_front-else-keeps_first.new.self.items) c.set_one.ensures.map
    ∙ set-first old c.in-Some-pop_front.setting c.pop_front-else-keeps_first.new.self.items kept c.requires.kept (sym (ap (keeps_first kept) items) ∙ sym c.keeps_first.ensures ∙ c.if-keeps_first.false)
    ∙ ap (attrs_after old kept) (sym items)
