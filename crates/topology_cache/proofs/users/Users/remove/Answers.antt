use Rattle.std.proofs.Common.{refl, sym, ap, subst, ◌∙◌}
use Rattle.std.specs.Option.{IsSome, option_copied_mut}
use Rattle.std.specs.FinMap as finite
use Rattle.std.proofs.lemmas.Bool.{eqb-true}
use Rattle.chart_model.specs.Names.{name_cmp}
use Rattle.chart_model.proofs.Names.{name_cmp-total}
use Rattle.chart_model.proofs.Trees.{get-seen}
use Rattle.topology_cache.specs.Users.{UsersValue, HasNoEmpty, set_at}
use Rattle.topology_cache.proofs.Uses.{tree-written, written-left, none-empty-insert, none-empty-without, not-none}
use Rattle.topology_cache.proofs.Uses.{take-absent, take-last}
use Rattle.topology_cache.proofs.users.Users.remove.Goals as goal

pub returns-in_default : goal.returns-in_default
returns-in_default c other =
    let absent = ap option_copied_mut (sym c.in_default.is) ∙ c.get_mut.ensures.value
    ∙ get-seen name_cmp-total _ _ _ c.self.view_is in
    ap (λ (users : UsersValue). set_at users other) (ap (λ tree. finite.from_entries {R = name_cmp} tree.entries)
    c.get_mut.follows.holds-at-none ∙ c.self.view_is)
    ∙ take-absent c.args.self.now c.args.edge c.args.user other (sym absent)

pub invariant_of-self-then-is_empty : goal.invariant_of-self-then-is_empty
invariant_of-self-then-is_empty c =
    let in_tree = ap option_copied_mut (sym c.in-Some.is) ∙ c.get_mut.ensures.value in
    let written = tree-written _ _ c.args.self.now c.args.edge c.remove.new.self c.self.view_is
    ((c.get_mut.follows.holds c.remove.new.self).3 (subst IsSome in_tree refl)).0 in
    subst HasNoEmpty (sym (c.take_out.ensures ∙ ap (λ (users : UsersValue). finite.remove users c.args.edge) written))
    (none-empty-without c.args.self.now c.args.edge c.remove.new.self
    (subst HasNoEmpty c.self.view_is c.self.invariant))

pub returns-then-is_empty : goal.returns-then-is_empty
returns-then-is_empty c other =
    let in_tree = ap option_copied_mut (sym c.in-Some.is) ∙ c.get_mut.ensures.value in
    let found = in_tree ∙ get-seen name_cmp-total _ _ _ c.self.view_is in
    let written = tree-written _ _ c.args.self.now c.args.edge c.remove.new.self c.self.view_is
    ((c.get_mut.follows.holds c.remove.new.self).3 (subst IsSome in_tree refl)).0 in
    ap (λ (users : UsersValue). set_at users other) (c.take_out.ensures
    ∙ ap (λ (users : UsersValue). finite.remove users c.args.edge) written)
    ∙ take-last c.args.self.now c.args.edge c.args.user other c.remove.new.self
    (written-left c.args.self.now c.args.edge c.args.user c.in-Some.names.now c.remove.new.self (sym found)
    c.remove.ensures)
    (eqb-true _ _ (sym c.is_empty.ensures ∙ c.if-is_empty.true))

pub invariant_of-self-else-is_empty : goal.invariant_of-self-else-is_empty
invariant_of-self-else-is_empty c =
    let in_tree = ap option_copied_mut (sym c.in-Some.is) ∙ c.get_mut.ensures.value in
    let written = tree-written _ _ c.args.self.now c.args.edge c.remove.new.self c.self.view_is
    ((c.get_mut.follows.holds c.remove.new.self).3 (subst IsSome in_tree refl)).0 in
    subst HasNoEmpty (sym written)
    (none-empty-insert c.args.self.now c.args.edge c.remove.new.self (subst HasNoEmpty c.self.view_is c.self.invariant)
    (not-none _ _ c.is_empty.ensures c.if-is_empty.false))

pub returns-else-is_empty : goal.returns-else-is_empty
returns-else-is_empty c other =
    let in_tree = ap option_copied_mut (sym c.in-Some.is) ∙ c.get_mut.ensures.value in
    let found = in_tree ∙ get-seen name_cmp-total _ _ _ c.self.view_is in
    let written = tree-written _ _ c.args.self.now c.args.edge c.remove.new.self c.self.view_is
    ((c.get_mut.follows.holds c.remove.new.self).3 (subst IsSome in_tree refl)).0 in
    ap (λ (users : UsersValue). set_at users other)
    (written
    ∙ ap (finite.insert c.args.self.now c.args.edge)
    (written-left c.args.self.now c.args.edge c.args.user c.in-Some.names.now c.remove.new.self (sym found)
    c.remove.ensures))
