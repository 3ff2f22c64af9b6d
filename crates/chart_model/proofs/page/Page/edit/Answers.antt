use Rattle.std.proofs.Common.{IfSome, ap, sym, subst, ◌∙◌}
use Rattle.std.specs.FinMap as map
use Rattle.chart_model.specs.Names.{edited_at}
use Rattle.chart_model.proofs.PageBlocks.{entry-edit, entry-absent}
use Rattle.chart_model.proofs.page.Page.edit.Goals as goal

pub edit-requires : goal.edit-requires
edit-requires g c =
    let edit = entry-edit c.self.inside.entries.items c.args.name c.self.invariant c.in-Ok.place c.index_mut-entry.result.now c.index_mut-entry.ensures.value (rw (← c.as_slice.ensures.value) c.in-Ok.ensures.bound) (rw (← c.as_slice.ensures.value) c.in-Ok.ensures.found) in
    subst (λ o. IfSome o (g.E.Edit.fits c.args.by)) (ap (λ m. map.get m c.args.name) (sym c.self.view_is) ∙ edit.0) c.requires

pub invariant_of-self : goal.invariant_of-self
invariant_of-self g c =
    let edit = entry-edit c.self.inside.entries.items c.args.name c.self.invariant c.in-Ok.place c.index_mut-entry.result.now c.index_mut-entry.ensures.value (rw (← c.as_slice.ensures.value) c.in-Ok.ensures.bound) (rw (← c.as_slice.ensures.value) c.in-Ok.ensures.found) in
    (edit.1 c.edit.new.value).1

pub returns-in_ok-edit-clause-ok : goal.returns-in_ok-edit-clause-ok
returns-in_ok-edit-clause-ok g c =
    let edit = entry-edit c.self.inside.entries.items c.args.name c.self.invariant c.in-Ok.place c.index_mut-entry.result.now c.index_mut-entry.ensures.value (rw (← c.as_slice.ensures.value) c.in-Ok.ensures.bound) (rw (← c.as_slice.ensures.value) c.in-Ok.ensures.found) in
    let found = ap (λ m. map.get m c.args.name) (sym c.self.view_is) ∙ edit.0 in
    (edit.1 c.edit.new.value).0
    ∙ (λ i. map.insert (c.self.view_is i) c.args.name (c.in_ok-edit.ensures.ok i))
    ∙ ap (edited_at (g.E.Edit.edited c.args.by) c.args.self.now c.args.name) (sym found)

pub returns-in_default-clause-ok : goal.returns-in_default-clause-ok
returns-in_default-clause-ok g c =
    let absent = entry-absent c.self.inside.entries.items c.args.name c.self.invariant c.in_default.field-0 (rw (← c.as_slice.ensures.value) c.in_default.ensures.bound) (rw (← c.as_slice.ensures.value) c.in_default.ensures.parted) in
    ap (edited_at (g.E.Edit.edited c.args.by) c.args.self.now c.args.name) (sym (ap (λ m. map.get m c.args.name) (sym c.self.view_is) ∙ absent))
