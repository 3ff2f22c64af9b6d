use Rattle.std.proofs.Common.{◌≡◌, Option, Some, None, sym, ap, ◌∙◌, subst}
use Rattle.std.specs.FinMap as finite
use Rattle.std.proofs.lemmas.Bool.{false≢true}
use Rattle.std.proofs.lemmas.Option.{none-some, same_Some}
use Rattle.chart_model.specs.declared.name.Name.{Name}
use Rattle.chart_model.specs.declared.cell.Feature.{Feature}
use Rattle.chart_model.specs.Cell.{CellValue, IsCell}
use Rattle.spatial_grid.specs.Kept.{HaveSamePlace}
use Rattle.spatial_grid.proofs.KeptGrids.{no_vector}
use Rattle.spatial_grid.proofs.kept.keeps_box.Goals as goal

-- what is found in a cell, by its value
seen : (inside value : CellValue) (name : Name) (o : Option Feature) → o ≡ finite.get inside.features name → inside ≡ value → finite.get value.features name ≡ o
seen inside value name o found is = sym (found ∙ ap (λ (cell : CellValue). finite.get cell.features name) is)

pub returns-in_default : goal.returns-in_default
returns-in_default c = (
  λ e. absurd (false≢true e),
  λ h. absurd (none-some h.after (sym (seen _ _ c.args.name None c.in_default.ensures' c.new.view_is) ∙ h.is)),
)

pub returns-in-Some-Some : goal.returns-in-Some-Some
returns-in-Some-Some c =
    let was = seen _ _ c.args.name (Some c.in-Some-Some.before.now) c.in-Some-Some.ensures c.old.view_is in
    let is = seen _ _ c.args.name (Some c.in-Some-Some.after.now) c.in-Some-Some.ensures' c.new.view_is in (
      λ so. record {
        before = c.in-Some-Some.before.now;
        after = c.in-Some-Some.after.now;
        was = was;
        is = is;
        same = c.have_same_place.ensures.0 so;
        no_vector_before = no_vector c.args.old.now c.args.name c.in-Some-Some.before.now (subst IsCell c.old.view_is c.old.invariant) was;
        no_vector_after = no_vector c.args.new.now c.args.name c.in-Some-Some.after.now (subst IsCell c.new.view_is c.new.invariant) is;
      },
      λ h. c.have_same_place.ensures.1
          (subst (λ (f : Feature). HaveSamePlace f c.in-Some-Some.after.now) (same_Some _ _ (sym h.was ∙ was))
          (subst (HaveSamePlace h.before) (same_Some _ _ (sym h.is ∙ is)) h.same)),
    )
