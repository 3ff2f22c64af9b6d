use Rattle.std.proofs.Common.{◌≡◌, ap, sym, ◌∙◌, subst, IfSome}
use Rattle.std.specs.FinMap as map
use Rattle.chart_model.specs.Names.{edited_in}
use Rattle.chart_model.specs.Pages.{names_of, IsPaged}
use Rattle.chart_model.proofs.Outcomes.{some-then}
use Rattle.chart_model.proofs.Pages.{get-names, placed, on_page, fits-on-page, edit-here, len-edited}
use Rattle.chart_model.proofs.name_map.NameMap.edit.Goals as goal

pub edit-requires-clause-fits : goal.edit-requires-clause-fits
edit-requires-clause-fits g c =
    let is = ap (λ m. map.get m c.args.name) (sym c.self.view_is)
    ∙ get-names c.self.inside.pages (placed c.self.inside.pages c.self.invariant.each) c.args.name
    ∙ ap (λ p. on_page c.args.name (map.get c.self.inside.pages p)) (sym c.of.ensures) in
    let Fits = λ (value : g.row.V.Denot). ((x y : g.row.V.Denot) → g.V.Clone.is_clone x y → y ≡ x) × g.E.Edit.fits c.args.by value in
    fits-on-page Fits c.args.name (map.get c.self.inside.pages c.of.result)
    (subst (λ o. IfSome o Fits) is
    (some-then (g.E.Edit.fits c.args.by) Fits (λ value fits. (c.requires.exact, fits)) (map.get c.args.self.now c.args.name) c.requires.fits))

pub invariant_of-self-2 : goal.invariant_of-self-2
invariant_of-self-2 g c =
    let edits = edit-here c.self.inside.pages c.self.invariant.each c.args.name (g.E.Edit.edited c.args.by) in
    subst (λ pages. IsPaged pages c.self.inside.count)
    (sym (c.in_ok-edit.ensures.ok ∙ ap (edited_in (λ records. edited_in (g.E.Edit.edited c.args.by) records c.args.name) c.self.inside.pages) c.of.ensures))
    (record { each = edits.1; counted = c.self.invariant.counted ∙ sym (ap map.len edits.0 ∙ len-edited (g.E.Edit.edited c.args.by) (names_of c.self.inside.pages) c.args.name) })

pub returns-clause-ok : goal.returns-clause-ok
returns-clause-ok g c =
    ap names_of (c.in_ok-edit.ensures.ok ∙ ap (edited_in (λ records. edited_in (g.E.Edit.edited c.args.by) records c.args.name) c.self.inside.pages) c.of.ensures)
    ∙ (edit-here c.self.inside.pages c.self.invariant.each c.args.name (g.E.Edit.edited c.args.by)).0
    ∙ ap (λ m. edited_in (g.E.Edit.edited c.args.by) m c.args.name) c.self.view_is
