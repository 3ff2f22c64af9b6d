use Rattle.std.proofs.Common.{◌≡◌, None, ap, sym, ◌∙◌, subst}
use Rattle.std.specs.Option.{is_some}
use Rattle.std.specs.FinMap as map
use Rattle.std.specs.FinMap.{FinMap}
use Rattle.chart_model.specs.declared.name.Name.{Name}
use Rattle.chart_model.specs.declared.page_map.PageName.{PageName}
use Rattle.chart_model.specs.Names.{name_cmp, edited_at, edited_in}
use Rattle.chart_model.specs.Pages.{page_cmp, page_of, names_of, ArePages}
use Rattle.chart_model.proofs.Outcomes.{on-ok, none-from, used, unused}
use Rattle.chart_model.proofs.Pages.{put-here, put-new}
use Rattle.chart_model.proofs.name_map.put_on_page.Goals as goal

-- the first record of a page that wasn't there
put-first : {X : Type 0} (pages : FinMap page_cmp (FinMap name_cmp X)) → ArePages pages → (name : Name) (v : X) (page : PageName) (same new : FinMap page_cmp (FinMap name_cmp X)) (first : FinMap name_cmp X)
    → page ≡ page_of name → map.get pages page ≡ None → same ≡ edited_in (λ records. map.insert records name v) pages page → first ≡ map.insert map.empty name v → new ≡ map.insert same page first
    → (names_of new ≡ map.insert (names_of pages) name v) × ArePages new
put-first pages each name v page same new first at none kept alone is =
    let kept = kept ∙ ap (edited_at (λ records. map.insert records name v) pages page) none in
    let whole = is ∙ (λ i. map.insert (kept i) (at i) (alone i)) in
    let put = put-new pages each name v (ap (map.get pages) (sym at) ∙ none) in
    (ap names_of whole ∙ put.0, subst ArePages (sym whole) put.1)

pub returns-in_default-clause-ok : goal.returns-in_default-clause-ok
returns-in_default-clause-ok g c =
    let there = ap (λ p. is_some (map.get c.args.pages.now p)) (sym c.of-page.ensures) ∙ used _ _ (sym c.in_default.is ∙ c.in_ok-first.ensures.unused) in
    ap names_of (c.in_ok-first.ensures.ok ∙ ap (edited_in (λ records. map.insert records c.args.name c.args.value) c.args.pages.now) c.of-page.ensures)
    ∙ (put-here c.args.pages.now c.requires.paged c.args.name c.args.value there).0

pub returns-in_default-clause-paged : goal.returns-in_default-clause-paged
returns-in_default-clause-paged g c =
    let there = ap (λ p. is_some (map.get c.args.pages.now p)) (sym c.of-page.ensures) ∙ used _ _ (sym c.in_default.is ∙ c.in_ok-first.ensures.unused) in
    subst ArePages (sym (c.in_ok-first.ensures.ok ∙ ap (edited_in (λ records. map.insert records c.args.name c.args.value) c.args.pages.now) c.of-page.ensures))
    (put-here c.args.pages.now c.requires.paged c.args.name c.args.value there).1

pub returns-clause-ok : goal.returns-clause-ok
returns-clause-ok g c =
    let back = unused _ _ _ (sym c.in-Some.is ∙ c.in_ok-first.ensures.unused) in
    on-ok c.insert.result c.insert.ensures.ok (λ is.
    (put-first _ c.requires.paged c.args.name c.args.value _ _ _ _ c.of-page.ensures (none-from _ back.0) c.in_ok-first.ensures.ok (c.in_ok-records.ensures ∙ (λ i. map.insert map.empty (back.1 i).name (back.1 i).value)) is).0)

pub returns-clause-paged : goal.returns-clause-paged
returns-clause-paged g c =
    let back = unused _ _ _ (sym c.in-Some.is ∙ c.in_ok-first.ensures.unused) in
    on-ok c.insert.result c.insert.ensures.ok (λ is.
    (put-first _ c.requires.paged c.args.name c.args.value _ _ _ _ c.of-page.ensures (none-from _ back.0) c.in_ok-first.ensures.ok (c.in_ok-records.ensures ∙ (λ i. map.insert map.empty (back.1 i).name (back.1 i).value)) is).1)
