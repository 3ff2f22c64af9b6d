use Rattle.std.proofs.Common.{◌≢◌, refl, sym, ap, subst, ◌∙◌}
use Rattle.std.specs.Option.{IsSome, option_copied_mut}
use Rattle.std.specs.FinMap as finite
use Rattle.chart_model.specs.Names.{name_cmp}
use Rattle.chart_model.proofs.Names.{name_cmp-total}
use Rattle.chart_model.proofs.Trees.{get-seen}
use Rattle.topology_cache.specs.Users.{Names, HasNoEmpty}
use Rattle.topology_cache.proofs.Uses.{tree-written, written-put, written-first, none-empty-insert, filled-put}
use Rattle.topology_cache.proofs.Uses.{filled-one, filled-there}
use Rattle.topology_cache.proofs.users.Users.insert.Goals as goal

pub invariant_of-self : goal.invariant_of-self
invariant_of-self c =
    let in_tree = ap option_copied_mut (sym c.in-Some.is) ∙ c.get_mut.ensures.value in
    let found = in_tree ∙ get-seen name_cmp-total _ _ _ c.self.view_is in
    let filled = subst HasNoEmpty c.self.view_is c.self.invariant in
    let written = tree-written _ _ c.args.self.now c.args.edge c.insert.new.self c.self.view_is
    ((c.get_mut.follows.holds c.insert.new.self).3 (subst IsSome in_tree refl)).0 in
    subst HasNoEmpty (sym written)
    (none-empty-insert c.args.self.now c.args.edge c.insert.new.self filled
    (filled-put c.insert.result c.in-Some.names.now c.insert.new.self c.args.user c.insert.ensures.ok
    c.insert.ensures.err
    (filled-there c.args.self.now c.args.edge c.in-Some.names.now filled (sym found))))

pub returns-in-Some : goal.returns-in-Some
returns-in-Some c =
    let in_tree = ap option_copied_mut (sym c.in-Some.is) ∙ c.get_mut.ensures.value in
    let found = in_tree ∙ get-seen name_cmp-total _ _ _ c.self.view_is in
    let written = tree-written _ _ c.args.self.now c.args.edge c.insert.new.self c.self.view_is
    ((c.get_mut.follows.holds c.insert.new.self).3 (subst IsSome in_tree refl)).0 in
    written-put c.insert.result c.args.self.now _ c.args.edge c.args.user c.in-Some.names.now c.insert.new.self
    (sym found) written c.insert.ensures.ok

pub invariant_of-self-in-Ok : goal.invariant_of-self-in-Ok
invariant_of-self-in-Ok c =
    let seen = ap (λ tree. finite.from_entries {R = name_cmp} tree.entries) c.get_mut.follows.holds-at-none
    ∙ c.self.view_is in
    let written = tree-written _ _ c.args.self.now c.args.edge c.of.result seen c.in-Ok.ensures.updates.0 in
    subst HasNoEmpty (sym written)
    (none-empty-insert c.args.self.now c.args.edge c.of.result (subst HasNoEmpty c.self.view_is c.self.invariant)
    (subst (λ (names : Names). finite.len names ≢ 0) (sym c.of.ensures) (filled-one c.args.user)))

pub returns-in-Ok : goal.returns-in-Ok
returns-in-Ok c =
    let seen = ap (λ tree. finite.from_entries {R = name_cmp} tree.entries) c.get_mut.follows.holds-at-none
    ∙ c.self.view_is in
    let absent = ap option_copied_mut (sym c.in_default.is) ∙ c.get_mut.ensures.value
    ∙ get-seen name_cmp-total _ _ _ c.self.view_is in
    tree-written _ _ c.args.self.now c.args.edge c.of.result seen c.in-Ok.ensures.updates.0
    ∙ written-first c.args.self.now c.args.edge c.args.user c.of.result (sym absent) c.of.ensures
