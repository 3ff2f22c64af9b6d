use Rattle.std.proofs.Common.{ap, sym, ◌∙◌, subst}
use Rattle.std.specs.FinMap as map
use Rattle.chart_model.specs.Names.{edited_in}
use Rattle.chart_model.specs.Pages.{names_of, is_alone, ArePages}
use Rattle.chart_model.proofs.Pages.{take-alone, take-one}
use Rattle.chart_model.proofs.name_map.take_off_page.Goals as goal

pub returns-then-has_one-clause-ok : goal.returns-then-has_one-clause-ok
returns-then-has_one-clause-ok g c =
    let one = sym (ap (λ p. is_alone (map.get c.args.pages.now p)) c.of-page.ensures) ∙ sym c.has_one.ensures ∙ c.if-has_one.true in
    ap names_of (c.remove.ensures ∙ ap (map.remove c.args.pages.now) c.of-page.ensures)
    ∙ (take-alone c.args.pages.now c.requires.paged c.args.name one c.requires.there).0

pub returns-then-has_one-clause-paged : goal.returns-then-has_one-clause-paged
returns-then-has_one-clause-paged g c =
    let one = sym (ap (λ p. is_alone (map.get c.args.pages.now p)) c.of-page.ensures) ∙ sym c.has_one.ensures ∙ c.if-has_one.true in
    subst ArePages (sym (c.remove.ensures ∙ ap (map.remove c.args.pages.now) c.of-page.ensures))
    (take-alone c.args.pages.now c.requires.paged c.args.name one c.requires.there).1

pub returns-clause-ok : goal.returns-clause-ok
returns-clause-ok g c =
    let more = sym (ap (λ p. is_alone (map.get c.args.pages.now p)) c.of-page.ensures) ∙ sym c.has_one.ensures ∙ c.if-has_one.false in
    ap names_of (c.in_ok-edit.ensures.ok ∙ ap (edited_in (λ records. map.remove records c.args.name) c.args.pages.now) c.of-page.ensures)
    ∙ (take-one c.args.pages.now c.requires.paged c.args.name more c.requires.there).0

pub returns-clause-paged : goal.returns-clause-paged
returns-clause-paged g c =
    let more = sym (ap (λ p. is_alone (map.get c.args.pages.now p)) c.of-page.ensures) ∙ sym c.has_one.ensures ∙ c.if-has_one.false in
    subst ArePages (sym (c.in_ok-edit.ensures.ok ∙ ap (edited_in (λ records. map.remove records c.args.name) c.args.pages.now) c.of-page.ensures))
    (take-one c.args.pages.now c.requires.paged c.args.name more c.requires.there).1
