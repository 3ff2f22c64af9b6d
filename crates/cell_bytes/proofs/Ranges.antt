-- Ranges of the entries of maps, which rest on what a cell is beside the types of its numbers.
use Rattle.std.proofs.Common.{◌≡◌, ℕ, List, [], ◌∷◌, Result, Ok, Err, IfOk, subst}
use Rattle.std.specs.Cmp.{IsTotalOrder, nat_cmp_total}
use Rattle.std.specs.declared.cmp.Ordering.{Ordering}
use Rattle.std.specs.List.{AllByRecursion}
use Rattle.std.specs.FinMap as finite
use Rattle.std.specs.FinMap.{FinMap, IsAntisymmetric, nat_cmp-IsAntisymmetric}
use Rattle.chart_model.specs.declared.record.Attr.{Attr}
use Rattle.chart_model.specs.Attrs.{Attrs, texts_by_code}
use Rattle.chart_model.specs.Cell.{AreKeptTexts, CellValue, IsCell, IsFeature, IsKeptText, IsVector}
use Rattle.chart_model.proofs.Names.{name_cmp-total, name_cmp-IsAntisymmetric}
use Rattle.chart_model.proofs.Maps.{Each}
use Rattle.chart_model.proofs.Pages.{EachEntry, each-of-map}
use Rattle.cell_bytes.specs.FieldValues.{IsEntryInRange}
use Rattle.cell_bytes.specs.RecordsRead.{IsFeatureEntryInRange, IsVectorInRange}

-- what each entry of a map is granted by a fact that it has, it has
granted_list : {K X : Type 0} (R : K → K → Ordering) (P : K → X → Type 0) (Q : K × X → Type 0) (es : List (K × X))
    → EachEntry R P es → AllByRecursion (λ e. P e.0 e.1 → Q e) es → AllByRecursion Q es
granted_list R P Q [] each granted = tt
granted_list R P Q (e ∷ es) each granted = (granted.0 each.0, granted_list R P Q es each.1 granted.1)

granted_map : {K X : Type 0} {R : K → K → Ordering} → IsTotalOrder R → IsAntisymmetric R → (P : K → X → Type 0) (Q : K × X → Type 0)
    (m : FinMap R X) → Each P m → AllByRecursion (λ e. P e.0 e.1 → Q e) (finite.entries m) → AllByRecursion Q (finite.entries m)
granted_map {R = R} total same P Q m each granted = granted_list R P Q (finite.entries m) (each-of-map R total same P m each) granted

by_code : (Q : ℕ × List ℕ → Type 0) (attrs : List Attr) → AllByRecursion (λ attr. Q (attr.code, attr.value)) attrs
    → AllByRecursion Q (texts_by_code attrs)
by_code Q [] each = tt
by_code Q (attr ∷ attrs) each = (each.0, by_code Q attrs each.1)

-- attributes whose codes fit, and whose texts are kept
pub attributes_in_range : (attrs : Attrs) (items : List Attr) → texts_by_code items ≡ finite.entries attrs
    → AllByRecursion (λ attr. IsKeptText attr.value → IsEntryInRange (attr.code, attr.value)) items → AreKeptTexts attrs
    → AllByRecursion IsEntryInRange (finite.entries attrs)
attributes_in_range attrs items are each kept =
    let Q : ℕ × List ℕ → Type 0 = λ (e : ℕ × List ℕ). IsKeptText e.1 → IsEntryInRange e in
    granted_map nat_cmp_total nat_cmp-IsAntisymmetric (λ _ text. IsKeptText text) IsEntryInRange attrs kept
    (subst (AllByRecursion Q) are (by_code Q items each))

pub vectors_in_range : (cell : CellValue) → IsCell cell
    → AllByRecursion (λ e. IsVector e.0 e.1 → IsVectorInRange e) (finite.entries cell.vectors)
    → AllByRecursion IsVectorInRange (finite.entries cell.vectors)
vectors_in_range cell is = granted_map name_cmp-total name_cmp-IsAntisymmetric IsVector IsVectorInRange cell.vectors is.vectors

pub features_in_range : (cell : CellValue) → IsCell cell
    → AllByRecursion (λ e. IsFeature e.0 e.1 → IsFeatureEntryInRange e) (finite.entries cell.features)
    → AllByRecursion IsFeatureEntryInRange (finite.entries cell.features)
features_in_range cell is =
    granted_map name_cmp-total name_cmp-IsAntisymmetric IsFeature IsFeatureEntryInRange cell.features is.features

-- what holds anyway holds where the answer is Ok
pub IfOk-always : {T E : Type 0} (r : Result T E) {P : Type 0} → P → IfOk r (λ _. P)
IfOk-always (Ok value) p = p
IfOk-always (Err fault) p = tt
