use Rattle.std.proofs.Common.{◌≡◌, List, Some, None, IfSome, cond, ap, refl, sym, subst, ◌∙◌}
use Rattle.std.specs.Option.{IsSome, is_some, option_copied_mut}
use Rattle.std.specs.BTreeMap.{is_at}
use Rattle.std.specs.Map.{lookup}
use Rattle.std.specs.declared.rc.Rc.{Rc}
use Rattle.std.specs.FinMap as map
use Rattle.std.specs.FinMap.{FinMap}
use Rattle.chart_model.specs.declared.page_map.PageName.{PageName}
use Rattle.chart_model.specs.Pages.{page_cmp}
use Rattle.chart_model.specs.Names.{edited_at}
use Rattle.chart_model.specs.Shared.{values_behind}
use Rattle.chart_model.proofs.Maps.{insert-same}
use Rattle.chart_model.proofs.PageNames.{page_cmp-total, page_cmp-IsAntisymmetric}
use Rattle.chart_model.proofs.SharedTrees.{valued, get-values, insert-values, same-value, whenever, at-ok, at-err}
use Rattle.chart_model.proofs.page_map.PageMap.edit.Goals as goal

-- a page that is written behind its pointer
written-back : {X Z : Type 0} (old new : List (PageName × Rc X Z)) (m : FinMap page_cmp X) (page : PageName)
    (pointer : Rc X Z) (value : X) → map.from_entries (values_behind old) ≡ m
    → ((q : PageName) → lookup (is_at (page_cmp q)) new ≡ cond (is_at (page_cmp page) q) (Some pointer) (lookup (is_at (page_cmp q)) old)) → pointer.value ≡ value
    → map.from_entries (values_behind new) ≡ map.insert m page value
written-back old new m page pointer value seen is holds =
    insert-values page_cmp-total page_cmp-IsAntisymmetric old new page pointer is
    ∙ (λ i. map.insert (seen i) page (holds i))

pub returns-in_err-own-clause-err : goal.returns-in_err-own-clause-err
returns-in_err-own-clause-err g c =
    let in_tree = ap option_copied_mut (sym c.in-Some.is) ∙ c.get_mut.ensures.value in
    let found = ap valued in_tree ∙ get-values page_cmp-total _ _ _ c.self.view_is in
    let kept = same-value g.T.Clone.is_clone c.in-Some.shared.now.value _ c.requires.exact (at-err _ _ c.in_err-own.was c.make_mut.follows.holds-at-none) in
    let written = c.get_mut.follows.holds c.make_mut.follows.lender-at-none in
    whenever c.from_residual.result
    (insert-values page_cmp-total page_cmp-IsAntisymmetric _ _ c.args.page c.make_mut.follows.lender-at-none
    (written.3 (subst IsSome in_tree refl)).0
    ∙ (λ i. map.insert (c.self.view_is i) c.args.page (kept i))
    ∙ insert-same page_cmp-total page_cmp-IsAntisymmetric _ c.args.page _ (sym found))

pub edit-requires : goal.edit-requires
edit-requires g c =
    let in_tree = ap option_copied_mut (sym c.in-Some.is) ∙ c.get_mut.ensures.value in
    let found = ap valued in_tree ∙ get-values page_cmp-total _ _ _ c.self.view_is in
    let kept = same-value g.T.Clone.is_clone c.in-Some.shared.now.value c.in_ok-own.own.now c.requires.exact c.in_ok-own.ensures.value in
    subst (g.E.Edit.fits c.args.by) (sym kept) (subst (λ o. IfSome o (g.E.Edit.fits c.args.by)) (sym found) c.requires.fits)

pub returns-in_err-edit-clause-err : goal.returns-in_err-edit-clause-err
returns-in_err-edit-clause-err g c =
    let in_tree = ap option_copied_mut (sym c.in-Some.is) ∙ c.get_mut.ensures.value in
    let found = ap valued in_tree ∙ get-values page_cmp-total _ _ _ c.self.view_is in
    let kept = same-value g.T.Clone.is_clone c.in-Some.shared.now.value c.in_ok-own.own.now c.requires.exact c.in_ok-own.ensures.value in
    whenever c.from_residual-in_err-edit.result
    (written-back _ _ _ c.args.page (c.make_mut.follows.lender c.edit.new.value) _ c.self.view_is ((c.get_mut.follows.holds _).3 (subst IsSome in_tree refl)).0
    (at-ok c.make_mut.result c.in_ok-own.own c.in_ok-own.was (c.make_mut.follows.holds c.edit.new.value) ∙ c.in_err-edit.ensures.err ∙ kept)
    ∙ insert-same page_cmp-total page_cmp-IsAntisymmetric _ c.args.page _ (sym found))

pub returns-in_default-clause-ok : goal.returns-in_default-clause-ok
returns-in_default-clause-ok g c =
    let found =
    ap valued (ap option_copied_mut (sym c.in_default.is) ∙ c.get_mut.ensures.value)
    ∙ get-values page_cmp-total _ _ _ c.self.view_is in
    ap (λ tree. map.from_entries (values_behind tree.entries)) c.get_mut.follows.holds-at-none
    ∙ c.self.view_is
    ∙ ap (edited_at (g.E.Edit.edited c.args.by) c.args.self.now c.args.page) found

pub returns-in_default-clause-unused : goal.returns-in_default-clause-unused
returns-in_default-clause-unused g c =
    ap (λ page. cond (is_some page) None (Some c.args.by))
    (ap valued (ap option_copied_mut (sym c.in_default.is) ∙ c.get_mut.ensures.value)
    ∙ get-values page_cmp-total _ _ _ c.self.view_is)

pub returns-clause-ok : goal.returns-clause-ok
returns-clause-ok g c =
    let in_tree = ap option_copied_mut (sym c.in-Some.is) ∙ c.get_mut.ensures.value in
    let found = ap valued in_tree ∙ get-values page_cmp-total _ _ _ c.self.view_is in
    let kept = same-value g.T.Clone.is_clone c.in-Some.shared.now.value c.in_ok-own.own.now c.requires.exact c.in_ok-own.ensures.value in
    written-back _ _ _ c.args.page (c.make_mut.follows.lender c.edit.new.value) _ c.self.view_is ((c.get_mut.follows.holds _).3 (subst IsSome in_tree refl)).0
    (at-ok c.make_mut.result c.in_ok-own.own c.in_ok-own.was (c.make_mut.follows.holds c.edit.new.value) ∙ c.in_ok-edit.ensures.ok ∙ ap (g.E.Edit.edited c.args.by) kept)
    ∙ ap (edited_at (g.E.Edit.edited c.args.by) c.args.self.now c.args.page) found

pub returns-clause-unused : goal.returns-clause-unused
returns-clause-unused g c =
    ap (λ page. cond (is_some page) None (Some c.args.by))
    (ap valued (ap option_copied_mut (sym c.in-Some.is) ∙ c.get_mut.ensures.value)
    ∙ get-values page_cmp-total _ _ _ c.self.view_is)
