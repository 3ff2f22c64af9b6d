use Rattle.std.proofs.Common.{◌++◌, List, ap, sym, subst, ◌∙◌}
use Rattle.std.specs.Option.{option_copied}
use Rattle.chart_model.specs.declared.name.Name.{Name}
use Rattle.chart_difference.specs.Difference.{HasAll, names_in}
use Rattle.chart_difference.proofs.Names.{all-names, alone-changed}
use Rattle.chart_difference.proofs.difference.changed_names.Goals as goal

pub changed_among-requires : goal.changed_among-requires
changed_among-requires c =
    let old = option_copied c.args.old in
    let new = option_copied c.args.new in
    let first = c.in_ok-push_all.ensures ∙ ap (λ (l : List Name). l ++ names_in old) c.new-names.ensures.items in
    subst (HasAll old new) (sym (c.in_ok-push_all-2.ensures ∙ ap (λ (l : List Name). l ++ names_in new) first)) (all-names old new)

pub returns-then-lacks_one : goal.returns-then-lacks_one
returns-then-lacks_one c =
    let old = option_copied c.args.old in
    let new = option_copied c.args.new in
    let first = c.in_ok-push_all.ensures ∙ ap (λ (l : List Name). l ++ names_in old) c.new-names.ensures.items in
    alone-changed old new _ c.in_order_once.result (sym c.lacks_one.ensures ∙ c.if-lacks_one.true)
    (c.in_ok-push_all-2.ensures ∙ ap (λ (l : List Name). l ++ names_in new) first)
    c.in_order_once.ensures.rising c.in_order_once.ensures.same
