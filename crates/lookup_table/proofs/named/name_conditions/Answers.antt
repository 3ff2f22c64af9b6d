use Rattle.std.proofs.Common.{List, ap, sym, ◌∙◌, arith}
use Rattle.std.specs.Vec.Iter.{into_iter_items}
use Rattle.lookup_table.specs.declared.condition.Condition.{Condition}
use Rattle.lookup_table.specs.Named.{named_condition}
use Rattle.lookup_table.specs.Reading.{each}
use Rattle.lookup_table.proofs.Each.{front, each_step, each_failed, each_done, no_elements}
use Rattle.lookup_table.proofs.named.name_conditions.Goals as goal

pub returns-in_default : goal.returns-in_default
returns-in_default c =
    each_failed (named_condition c.args.catalogue.now) c.loop-condition.conditions (into_iter_items c.loop-condition.condition-iterator) c.in-Some.condition (into_iter_items c.next.new.self) _
    c.in-Some.ensures.steps.0 (sym c.name_condition.ensures ∙ c.in_default.is) c.loop-condition.invariant

pub loop-condition-preserved : goal.loop-condition-preserved
loop-condition-preserved c =
    ap (λ (l : List Condition). front l (each (named_condition c.args.catalogue.now) (into_iter_items c.next.new.self))) c.in_ok-push.ensures.ok
    ∙ each_step (named_condition c.args.catalogue.now) c.loop-condition.conditions (into_iter_items c.loop-condition.condition-iterator) c.in-Some.condition (into_iter_items c.next.new.self) c.in-Some-name_condition.condition _
    c.in-Some.ensures.steps.0 (sym c.name_condition.ensures ∙ c.in-Some-name_condition.is) c.loop-condition.invariant

pub returns : goal.returns
returns c =
    let none = no_elements (into_iter_items c.loop-condition.condition-iterator) (omega (arith, c.loop-condition.condition-iterator.rest.ok.0, c.in-None.ensures.steps.0)) in
    each_done (named_condition c.args.catalogue.now) c.loop-condition.conditions (into_iter_items c.loop-condition.condition-iterator) _ none c.loop-condition.invariant
