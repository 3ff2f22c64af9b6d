-- Features taken out of a map one after the other.
use Rattle.std.proofs.Common.{◌≡◌, Bool, true, false, cond, not, ◌&&◌, ◌↔◌, List, [], ◌∷◌, Option, Some, None, refl, sym, ap, subst, ◌∙◌}
use Rattle.std.specs.Prelude.{is_some, IsTrue, IfSome}
use Rattle.std.specs.Ordering.{eq_by_cmp}
use Rattle.std.specs.FinMap as map
use Rattle.std.specs.FinMap.{find}
use Rattle.common_lemmas.proofs.Choices.{some_is}
use Rattle.chart_model.specs.Cell.{CellValue, IsCell, IsFeature}
use Rattle.chart_model.specs.Names.{name_cmp}
use Rattle.chart_model.specs.declared.cell.Feature.{Feature}
use Rattle.chart_model.specs.declared.name.Name.{Name}
use Rattle.chart_model.proofs.Maps.{tied}
use Rattle.chart_model.proofs.Names.{name_cmp-total, name_cmp-IsAntisymmetric}
use Rattle.chart_model.proofs.Pages.{EachEntry, each-of-map}
use Rattle.date_display.specs.Chart.{IsChartOn, is_some_shown, features_on, chart_on}
use Rattle.date_display.specs.Shown.{is_shown_on}
use Rattle.date_display.specs.declared.date.Date.{Date}
use Rattle.date_display.proofs.Bounds.{Decides-is_shown_on}

abbrev pub Features : Type 0
Features = map.FinMap name_cmp Feature

-- the map without the feature, unless that is shown
abbrev pub passed : Date → Name × Feature → Features → Features
passed day entry features =
    cond (is_shown_on day entry.1.attrs) features (map.remove features entry.0)

abbrev pub without_hidden : Date → List (Name × Feature) → Features → Features
without_hidden day [] features = features
without_hidden day (entry ∷ entries) features = without_hidden day entries (passed day entry features)

-- one step of a look-up: the entry is the one that is looked for or it isn't, and it is shown or it isn't
stepped : {A : Type 0} (here shown hidden : Bool) (found now after : Option A) (value : A)
    → (here ≡ true → hidden ≡ not shown) → after ≡ cond shown now (cond here None now)
    → cond (is_some found && hidden) None after ≡ cond (is_some (cond here (Some value) found) && hidden) None now
stepped true true hidden None now after value is e = rw (is refl) e
stepped true true hidden (Some x) now after value is e = rw (is refl) e
stepped true false hidden None now after value is e = rw (is refl) e
stepped true false hidden (Some x) now after value is e = rw (is refl) refl
stepped false true hidden found now after value is e = ap (λ o. cond (is_some found && hidden) None o) e
stepped false false hidden found now after value is e = ap (λ o. cond (is_some found && hidden) None o) e

passed_at : (shown : Bool) (features : Features) (name q : Name)
    → map.get (cond shown features (map.remove features name)) q
    ≡ cond shown (map.get features q) (cond (eq_by_cmp name_cmp q name) None (map.get features q))
passed_at true features name q = refl
passed_at false features name q = map.get-remove name_cmp-total features name q

hidden_at : (day : Date) (all : Features) (q name : Name) (feature : Feature) → map.get all name ≡ Some feature
    → eq_by_cmp name_cmp q name ≡ true → not (is_some_shown day (map.get all q)) ≡ not (is_shown_on day feature.attrs)
hidden_at day all q name feature there e =
    ap (λ o. not (is_some_shown day o))
    (ap (λ (n : Name). map.get all n) (name_cmp-IsAntisymmetric q name (tied (name_cmp q name) e)) ∙ there)

get-without_hidden : (day : Date) (all : Features) (q : Name) (es : List (Name × Feature)) (features : Features)
    → EachEntry name_cmp (λ name feature. map.get all name ≡ Some feature) es
    → map.get (without_hidden day es features) q
    ≡ cond (is_some (find name_cmp q es) && not (is_some_shown day (map.get all q))) None (map.get features q)
get-without_hidden day all q [] features each = refl
get-without_hidden day all q (e ∷ es) features each =
    get-without_hidden day all q es (passed day e features) each.1
    ∙ stepped (eq_by_cmp name_cmp q e.0) (is_shown_on day e.1.attrs) (not (is_some_shown day (map.get all q)))
    (find name_cmp q es) (map.get features q) (map.get (passed day e features) q) e.1
    (hidden_at day all q e.0 e.1 each.0) (passed_at (is_shown_on day e.1.attrs) features e.0 q)

there_itself : {A : Type 0} (o : Option A) → IfSome o (λ x. o ≡ Some x)
there_itself None = tt
there_itself (Some x) = refl

chosen_at : (day : Date) (o : Option Feature)
    → cond (is_some o && not (is_some_shown day o)) None o ≡ cond (is_some_shown day o) o None
chosen_at day None = refl
chosen_at day (Some feature) =
    elim (is_shown_on day feature.attrs) as (λ b. cond (true && not b) None (Some feature) ≡ cond b (Some feature) None) [
      | true ↦ refl
      | false ↦ refl
    ]

pub get-features_on : (day : Date) (features : Features) (q : Name)
    → map.get (features_on day features) q ≡ cond (is_some_shown day (map.get features q)) (map.get features q) None
unfolding features_on
get-features_on day features q =
    map.get-retain_keys features (λ name. is_some_shown day (map.get features name)) q
    (λ x e. ap (λ (n : Name). is_some_shown day (map.get features n)) (sym (name_cmp-IsAntisymmetric q x e)))

pub without_hidden-all : (day : Date) (features : Features)
    → without_hidden day (map.entries features) features ≡ features_on day features
without_hidden-all day features =
    map.same_map name_cmp-total name_cmp-IsAntisymmetric _ _ (λ q.
    get-without_hidden day features q (map.entries features) features
    (each-of-map name_cmp name_cmp-total name_cmp-IsAntisymmetric (λ name feature. map.get features name ≡ Some feature) features
    (λ name. there_itself (map.get features name)))
    ∙ ap (λ o. cond (is_some o && not (is_some_shown day (map.get features q))) None (map.get features q)) (sym (map.get-entries features q))
    ∙ chosen_at day (map.get features q)
    ∙ sym (get-features_on day features q))

found_at : (day : Date) (o : Option Feature) (feature : Feature) → cond (is_some_shown day o) o None ≡ Some feature
    → (o ≡ Some feature) × IsTrue (is_shown_on day feature.attrs)
found_at day None feature e = absurd cc
found_at day (Some x) feature e =
    elim (is_shown_on day x.attrs) as (λ b. is_shown_on day x.attrs ≡ b → ◌≡◌ {A = Option Feature} (cond b (Some x) None) (Some feature)
    → (◌≡◌ {A = Option Feature} (Some x) (Some feature)) × IsTrue (is_shown_on day feature.attrs)) [
      | true ↦ λ is same. (same, ap (λ (f : Feature). is_shown_on day f.attrs) (sym (some_is _ _ same)) ∙ is)
      | false ↦ λ is none. absurd cc
    ] refl e

again_at : (day : Date) (o : Option Feature) (feature : Feature) → o ≡ Some feature → IsTrue (is_shown_on day feature.attrs)
    → cond (is_some_shown day o) o None ≡ Some feature
again_at day o feature is shown = rw is (rw shown refl)

pub chart_on_is : (cell : CellValue) (day : Date) → IsChartOn cell day (chart_on day cell)
chart_on_is cell day = record {
  header = refl;
  vectors = refl;
  features = λ name feature. (
    λ e.
        let found = found_at day (map.get cell.features name) feature (sym (get-features_on day cell.features name) ∙ e) in
        (found.0, (Decides-is_shown_on day feature.attrs).0 found.1),
    λ is.
        get-features_on day cell.features name
        ∙ again_at day (map.get cell.features name) feature is.0 ((Decides-is_shown_on day feature.attrs).1 is.1),
  );
}

same_option : {A : Type 0} (o p : Option A) → ((x : A) → (o ≡ Some x) ↔ (p ≡ Some x)) → o ≡ p
same_option None None h = refl
same_option None (Some y) h = absurd (let e = (h y).1 refl in cc)
same_option (Some x) p h = sym ((h x).0 refl)

pub chart_on_only : (cell : CellValue) (day : Date) (shown : CellValue) → IsChartOn cell day shown → shown ≡ chart_on day cell
chart_on_only cell day shown is =
    let same : shown.features ≡ features_on day cell.features =
    map.same_map name_cmp-total name_cmp-IsAntisymmetric _ _ (λ q.
    same_option (map.get shown.features q) (map.get (features_on day cell.features) q) (λ feature.
    let one = is.features q feature in
    let other = (chart_on_is cell day).features q feature in
    (λ e. other.1 (one.0 e), λ e. one.1 (other.0 e)))) in
    ap (λ header. record { header = header; vectors = shown.vectors; features = shown.features }) is.header
    ∙ ap (λ vectors. record { header = cell.header; vectors = vectors; features = shown.features }) is.vectors
    ∙ ap (λ features. record { header = cell.header; vectors = cell.vectors; features = features }) same

still : {A : Type 0} (P : A → Type 0) (chosen : Bool) (o : Option A) → IfSome o P → IfSome (cond chosen o None) P
still P true o is = is
still P false o is = tt

-- a part of the features of a cell makes a cell
pub cell_on : (day : Date) (cell shown : CellValue) → IsCell cell → shown ≡ chart_on day cell → IsCell shown
cell_on day cell shown is same =
    subst (λ (x : CellValue). IsCell x) (sym same) (record {
      header = is.header;
      vectors = is.vectors;
      features = λ name. subst (λ (o : Option Feature). IfSome o (IsFeature name)) (sym (get-features_on day cell.features name))
          (still (IsFeature name) (is_some_shown day (map.get cell.features name)) (map.get cell.features name) (is.features name));
    })

pub chart_on_like : (day : Date) (cell shown : CellValue) → shown ≡ chart_on day cell → IsChartOn cell day shown
chart_on_like day cell shown same = subst (λ (x : CellValue). IsChartOn cell day x) (sym same) (chart_on_is cell day)
