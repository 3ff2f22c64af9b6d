use Rattle.std.proofs.Common.{List, sym, ap, subst, ◌∙◌}
use Rattle.std.specs.FinMap as finite
use Rattle.chart_model.specs.declared.name.Name.{Name}
use Rattle.topology_cache.specs.Users.{Names, UsersValue, set_at}
use Rattle.topology_cache.specs.Sets.{AreUserRows}
use Rattle.topology_cache.proofs.Rows.{added-there, added-more, added-first}
use Rattle.topology_cache.proofs.user_rows.UserRows.add.Goals as goal

pub invariant_of-self : goal.invariant_of-self
invariant_of-self c =
    (added-there c.self.inside.rows.items c.args.one.target c.args.one.user c.self.invariant c.insert.result c.in-Ok.place
    c.index_mut-row.result.now c.insert.new.self c.index_mut-row.ensures.value
    (rw (← c.as_slice.ensures.value) c.in-Ok.ensures.bound) (rw (← c.as_slice.ensures.value) c.in-Ok.ensures.found)
    c.insert.ensures.ok c.insert.ensures.err).0

pub invariant_of-self-in-Continue-branch-2 : goal.invariant_of-self-in-Continue-branch-2
invariant_of-self-in-Continue-branch-2 c =
    subst AreUserRows (sym c.in_ok-insert-in-Err.ensures.items)
    (added-first c.self.inside.rows.items c.args.one.target c.args.one.user c.self.invariant c.in-Err.place c.of.result
    (rw (← c.as_slice.ensures.value) c.in-Err.ensures.bound) (rw (← c.as_slice.ensures.value) c.in-Err.ensures.parted)
    c.of.ensures).0

pub returns-in_ok-insert-in-Ok : goal.returns-in_ok-insert-in-Ok
returns-in_ok-insert-in-Ok c =
    added-more c.self.inside.rows.items c.args.one.target c.args.one.user c.self.invariant c.args.self.now c.self.view_is
    c.in-Ok.place c.index_mut-row.result.now c.insert.new.self c.index_mut-row.ensures.value
    (rw (← c.as_slice.ensures.value) c.in-Ok.ensures.bound) (rw (← c.as_slice.ensures.value) c.in-Ok.ensures.found)
    c.in_ok-insert-in-Ok.ensures.ok

pub returns-in_ok-insert-in-Err : goal.returns-in_ok-insert-in-Err
returns-in_ok-insert-in-Err c =
    ap (λ (rows : List (Name × Names)). finite.from_sorted rows) c.in_ok-insert-in-Err.ensures.items
    ∙ (added-first c.self.inside.rows.items c.args.one.target c.args.one.user c.self.invariant c.in-Err.place c.of.result
    (rw (← c.as_slice.ensures.value) c.in-Err.ensures.bound) (rw (← c.as_slice.ensures.value) c.in-Err.ensures.parted)
    c.of.ensures).1
    ∙ ap (λ (u : UsersValue). finite.insert u c.args.one.target
    (finite.insert (set_at u c.args.one.target) c.args.one.user tt)) c.self.view_is
