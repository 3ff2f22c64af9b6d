-- The insertions of a cell's records, made one after the other where no record is.
use Rattle.std.proofs.Common.{◌≡◌, inl, inr, true, false, T, if◌then◌else◌, ◌==◌, List, [], ◌∷◌, ◌++◌, None, Ok, refl, ap, ◌∙◌}
use Rattle.std.specs.Prelude as list
use Rattle.std.specs.Option.{option_map}
use Rattle.std.specs.FinMap as map
use Rattle.std.specs.FinMap.{FinMap, is_sorted}
use Rattle.chart_model.specs.declared.name.Name.{Name}
use Rattle.chart_model.specs.declared.cell.Vector.{Vector}
use Rattle.chart_model.specs.declared.cell.Feature.{Feature}
use Rattle.chart_model.specs.Answers.{unless, ◌>>=◌}
use Rattle.chart_model.specs.Cell.{CellValue, empty_cell, IsCell, IsVector, IsFeature}
use Rattle.chart_model.specs.Change.{Change}
use Rattle.chart_model.specs.Names.{name_cmp}
use Rattle.chart_model.specs.Record.{IsVectorName, IsFeatureName}
use Rattle.chart_model.proofs.Names.{name_cmp-total, name_cmp-IsAntisymmetric}
use Rattle.chart_model.proofs.Pages.{EachEntry, each-of-map}
use Rattle.chart_model.proofs.SortedEntries.{second, first}
use Rattle.update_apply.specs.Fault.{is_feature, held_vector, held_feature, fault_by, fault_of}
use Rattle.update_apply.specs.Changed.{inserted_vector, inserted_feature, modified_vector, modified_feature}
use Rattle.update_apply.specs.Changed.{records_after, cell_after}
use Rattle.update_sequence.specs.declared.fault.BuildFault.TheVariants as of_build
use Rattle.update_sequence.specs.Built.{folded}
use Rattle.cell_writer.specs.ReadBack.{vector_insertion, feature_insertion, insertions}
use Rattle.cell_writer.proofs.PutEntries.{put_entries, AreNew, new-empty, new-after, put_entries-all}
use Rattle.cell_writer.proofs.Settings.{set-settings}

-- a change that has no fault is made, and then those behind it
folded-next : (cell after : CellValue) (change : Change) (rest : List Change) → fault_of cell change ≡ None
    → cell_after cell change ≡ after → folded cell (change ∷ rest) ≡ folded after rest
unfolding folded
folded-next cell after change rest none made =
    (λ i. unless (option_map of_build.Change (none i)) (made i) >>= (λ x. folded x rest))

-- ---- vector records

not-feature : (name : Name) → IsVectorName name → is_feature name ≡ false
not-feature name (inl e) = ap (λ n. n == 100) e
not-feature name (inr (inl e)) = ap (λ n. n == 100) e
not-feature name (inr (inr e)) = ap (λ n. n == 100) e

abbrev vector_change : Name × Vector → Change
vector_change entry = vector_insertion entry.0 entry.1

abbrev with_vectors : CellValue → FinMap name_cmp Vector → CellValue
with_vectors cell vectors = record cell { vectors = vectors }

-- under a new name one may be inserted
vector-new : (cell : CellValue) (name : Name) (vector : Vector) → IsVectorName name → map.get cell.vectors name ≡ None → fault_of cell (vector_insertion name vector) ≡ None
vector-new cell name vector named new =
    λ i. fault_by (if not-feature name named i then option_map held_feature (map.get cell.features name) else option_map held_vector (new i)) (vector_insertion name vector)

inserted-vector : (name : Name) (vector : Vector) → IsVector name vector → inserted_vector (vector_insertion name vector) ≡ vector
inserted-vector name vector is =
    λ i. record { version = vector.version; attrs = set-settings vector.attrs is.attrs i; pointers = vector.pointers; coords = vector.coords }

vector-put : (cell : CellValue) (name : Name) (vector : Vector) → IsVector name vector
    → cell_after cell (vector_insertion name vector) ≡ with_vectors cell (map.insert cell.vectors name vector)
vector-put cell name vector is =
    λ i. if not-feature name is.named i
    then record cell {
      features = records_after inserted_feature modified_feature cell.features (vector_insertion name vector);
    }
    else with_vectors cell (map.insert cell.vectors name (inserted-vector name vector is i))

vectors-folded : (cell : CellValue) (es : List (Name × Vector)) (rest : List Change) → EachEntry name_cmp IsVector es → T (is_sorted name_cmp es) → AreNew name_cmp cell.vectors es
    → folded cell (list.map vector_change es ++ rest) ≡ folded (with_vectors cell (put_entries name_cmp cell.vectors es)) rest
vectors-folded cell [] rest each sorted new = refl
vectors-folded cell (e ∷ es) rest each sorted new =
    let after : CellValue = with_vectors cell (map.insert cell.vectors e.0 e.1) in
    folded-next cell after (vector_change e) (list.map vector_change es ++ rest) (vector-new cell e.0 e.1 each.0.named new.0) (vector-put cell e.0 e.1 each.0)
    ∙ vectors-folded after es rest each.1 (second _ _ sorted) (new-after name_cmp name_cmp-total cell.vectors e.0 e.1 es (first _ _ sorted) new.1)

-- ---- features

is-feature : (name : Name) → IsFeatureName name → is_feature name ≡ true
is-feature name e = ap (λ n. n == 100) e

abbrev feature_change : Name × Feature → Change
feature_change entry = feature_insertion entry.0 entry.1

abbrev with_features : CellValue → FinMap name_cmp Feature → CellValue
with_features cell features = record cell { features = features }

feature-new : (cell : CellValue) (name : Name) (feature : Feature) → IsFeatureName name → map.get cell.features name ≡ None → fault_of cell (feature_insertion name feature) ≡ None
feature-new cell name feature named new =
    λ i. fault_by (if is-feature name named i then option_map held_feature (new i) else option_map held_vector (map.get cell.vectors name)) (feature_insertion name feature)

inserted-feature : (name : Name) (feature : Feature) → IsFeature name feature → inserted_feature (feature_insertion name feature) ≡ feature
inserted-feature name feature is =
    λ i. record {
      prim = feature.prim;
      grup = feature.grup;
      class = feature.class;
      version = feature.version;
      foid = feature.foid;
      attrs = set-settings feature.attrs is.attrs i;
      related = feature.related;
      pointers = feature.pointers;
    }

feature-put : (cell : CellValue) (name : Name) (feature : Feature) → IsFeature name feature
    → cell_after cell (feature_insertion name feature) ≡ with_features cell (map.insert cell.features name feature)
feature-put cell name feature is =
    λ i. if is-feature name is.named i
    then with_features cell (map.insert cell.features name (inserted-feature name feature is i))
    else record cell {
      vectors = records_after inserted_vector modified_vector cell.vectors (feature_insertion name feature);
    }

features-folded : (cell : CellValue) (es : List (Name × Feature)) → EachEntry name_cmp IsFeature es → T (is_sorted name_cmp es) → AreNew name_cmp cell.features es
    → folded cell (list.map feature_change es) ≡ Ok (with_features cell (put_entries name_cmp cell.features es))
unfolding folded
features-folded cell [] each sorted new = refl
features-folded cell (e ∷ es) each sorted new =
    let after : CellValue = with_features cell (map.insert cell.features e.0 e.1) in
    folded-next cell after (feature_change e) (list.map feature_change es) (feature-new cell e.0 e.1 each.0.named new.0) (feature-put cell e.0 e.1 each.0)
    ∙ features-folded after es each.1 (second _ _ sorted) (new-after name_cmp name_cmp-total cell.features e.0 e.1 es (first _ _ sorted) new.1)

-- ---- all records

pub insertions-folded : (cell : CellValue) → IsCell cell → folded (empty_cell cell.header) (insertions cell) ≡ Ok cell
unfolding insertions
insertions-folded cell is =
    let vectors : List (Name × Vector) = map.entries cell.vectors in
    let features : List (Name × Feature) = map.entries cell.features in
    let rest : List Change = list.map feature_change features in
    vectors-folded (empty_cell cell.header) vectors rest
    (each-of-map name_cmp name_cmp-total name_cmp-IsAntisymmetric IsVector cell.vectors is.vectors) (map.entries_sorted cell.vectors) (new-empty name_cmp vectors)
    ∙ ap (λ (m : FinMap name_cmp Vector). folded (with_vectors (empty_cell cell.header) m) rest) (put_entries-all name_cmp name_cmp-total name_cmp-IsAntisymmetric cell.vectors)
    ∙ features-folded (with_vectors (empty_cell cell.header) cell.vectors) features
    (each-of-map name_cmp name_cmp-total name_cmp-IsAntisymmetric IsFeature cell.features is.features) (map.entries_sorted cell.features) (new-empty name_cmp features)
    ∙ ap (λ (m : FinMap name_cmp Feature). Ok (with_features cell m)) (put_entries-all name_cmp name_cmp-total name_cmp-IsAntisymmetric cell.features)
