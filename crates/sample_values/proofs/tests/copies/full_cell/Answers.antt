use Rattle.std.proofs.Common.{◌≡◌, All, IfSome, inl, refl, sym, subst, rules}
use Rattle.std.specs.FinMap as map
use Rattle.std.specs.Ordering.{nat_cmp}
use Rattle.std.proofs.lemmas.List.Elements.{All-nil}
use Rattle.chart_model.specs.Attrs.{Attrs}
use Rattle.chart_model.specs.Cell.{IsVector, IsFeature, IsKeptText, AreKeptTexts}
use Rattle.chart_model.specs.Names.{name_cmp}
use Rattle.chart_model.specs.Record.{AreCoords}
use Rattle.chart_model.proofs.Maps.{Each, each-insert, each-empty}
use Rattle.chart_model.proofs.Names.{name_cmp-total, name_cmp-IsAntisymmetric}
use Rattle.sample_values.proofs.tests.copies.full_cell.Goals as goal

no-texts : (attrs : Attrs) → attrs ≡ map.empty → AreKeptTexts attrs
no-texts attrs empty code = subst (λ (m : Attrs). IfSome (map.get m code) IsKeptText) (sym empty) (subst (λ o. IfSome o IsKeptText) (sym (map.get-empty nat_cmp code)) tt)

pub returns-clause-cell : goal.returns-clause-cell
returns-clause-cell c = record {
  header = c.requires;
  vectors = subst (Each IsVector) (sym c.in_ok-insert.ensures.ok)
      (each-insert name_cmp-total name_cmp-IsAntisymmetric IsVector c.new-vectors.result _ _ (subst (Each IsVector) (sym c.new-vectors.ensures) (each-empty name_cmp IsVector)) (record {
        named = inl refl;
        attrs = no-texts c.new.result c.new.ensures;
        coords = subst AreCoords (sym c.new-3.ensures) (record { each = All-nil _; alike = inl (All-nil _) });
      }));
  features = subst (Each IsFeature) (sym c.in_ok-insert-2.ensures.ok)
      (each-insert name_cmp-total name_cmp-IsAntisymmetric IsFeature c.new-features.result _ _ (subst (Each IsFeature) (sym c.new-features.ensures) (each-empty name_cmp IsFeature)) (record {
        named = refl;
        prim = search rules;
        attrs = no-texts c.new-4.result c.new-4.ensures;
        topi = subst (All (λ pointer. pointer.topi ≡ 255)) (sym c.new-6.ensures) (All-nil _);
      }));
}

pub invariant_of-result : goal.invariant_of-result
invariant_of-result c = returns-clause-cell c
