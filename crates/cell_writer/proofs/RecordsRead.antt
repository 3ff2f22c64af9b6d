-- The data set that the records of a written file are read as is that of the cell, and so the file reads back.
use Rattle.std.proofs.Common.{◌≡◌, ℕ, false, ◌&&◌, List, [], ◌∷◌, ◌++◌, Ok, refl, map}
use Rattle.std.specs.Prelude.{codes}
use Rattle.std.specs.List.{AllByRecursion}
use Rattle.std.specs.FinMap as finite
use Rattle.std.specs.declared.cmp.Ordering.{Ordering}
use Rattle.chart_model.specs.declared.name.Name.{Name}
use Rattle.chart_model.specs.declared.record.Coord.{Coord}
use Rattle.chart_model.specs.declared.cell.Vector.{Vector}
use Rattle.chart_model.specs.declared.cell.Feature.{Feature}
use Rattle.chart_model.specs.Cell.{CellValue, IsCell, IsFeature, IsVector}
use Rattle.chart_model.specs.Names.{name_cmp}
use Rattle.chart_model.proofs.Names.{name_cmp-IsAntisymmetric, name_cmp-total}
use Rattle.chart_model.proofs.Pages.{EachEntry, each-of-map}
use Rattle.iso8211_records.specs.Kinds.{layout_at}
use Rattle.iso8211_records.specs.RecordFile.{record_file_of}
use Rattle.s57_records.specs.LayoutReadings.{all_subfields}
use Rattle.s57_records.specs.Dataset.{dataset_of, record_content}
use Rattle.update_sequence.specs.Reading.{data_set_in}
use Rattle.cell_bytes.specs.Layouts.{layouts, tags_read}
use Rattle.cell_bytes.specs.RecordsRead.{IsCellInRange, IsFeatureEntryInRange, IsVectorInRange, feature_read, records_read, vector_read}
use Rattle.cell_bytes.specs.Written.{base_file_of}
use Rattle.cell_writer.specs.ReadBack.{data_set_of, feature_insertion, insertions, settings_of, vector_insertion}
use Rattle.cell_writer.proofs.RecordFacts.{feature-is, vector-is}
use Rattle.cell_writer.proofs.InsertedRecords.{AreInserted, Inserts, data-set-is, inserted, inserted-append}
use Rattle.cell_writer.proofs.HeadsRead.{feature-head, feature-kind, general-read, read_by_layouts, vector-head, vector-kind}

-- what the lists of written records are read as
pub record ReadsLists : Type 0 where
  pub vector_attrs : (n : ℕ) (name : Name) (vector : Vector) → IsVectorInRange (name, vector) → IsVector name vector
      → (read_by_layouts n (vector_read name vector)).attrs (codes "ATTV") ≡ Ok (settings_of vector.attrs)
  pub vector_pointers : (n : ℕ) (name : Name) (vector : Vector) → IsVectorInRange (name, vector) → IsVector name vector
      → (read_by_layouts n (vector_read name vector)).pointers (codes "VRPT") ≡ Ok vector.pointers
  pub vector_coords : (n : ℕ) (name : Name) (vector : Vector) → IsVectorInRange (name, vector) → IsVector name vector
      → (points soundings : List Coord)
      × ((read_by_layouts n (vector_read name vector)).coords (codes "SG2D") ≡ Ok points)
      × ((read_by_layouts n (vector_read name vector)).coords (codes "SG3D") ≡ Ok soundings)
      × (points ++ soundings ≡ vector.coords)
      × ((read_by_layouts n (vector_read name vector)).has (codes "SG2D") && (read_by_layouts n (vector_read name vector)).has (codes "SG3D") ≡ false)
  pub feature_attrs : (n : ℕ) (name : Name) (feature : Feature) → IsFeatureEntryInRange (name, feature) → IsFeature name feature
      → (read_by_layouts n (feature_read name feature)).attrs (codes "ATTF") ≡ Ok (settings_of feature.attrs)
  pub feature_related : (n : ℕ) (name : Name) (feature : Feature) → IsFeatureEntryInRange (name, feature) → IsFeature name feature
      → (read_by_layouts n (feature_read name feature)).related (codes "FFPT") ≡ Ok feature.related
  pub feature_pointers : (n : ℕ) (name : Name) (feature : Feature) → IsFeatureEntryInRange (name, feature) → IsFeature name feature
      → (read_by_layouts n (feature_read name feature)).pointers (codes "FSPT") ≡ Ok feature.pointers
  pub feature_foid : (n : ℕ) (name : Name) (feature : Feature) → IsFeatureEntryInRange (name, feature) → IsFeature name feature
      → (read_by_layouts n (feature_read name feature)).foid ≡ Ok feature.foid

-- ---- the entries of a map, of which two things are known

module _ {K X : Type 0} (R : K → K → Ordering) (P : K → X → Type 0) (Q : K × X → Type 0) where
  abbrev Both : K × X → Type 0
  Both entry = Q entry × P entry.0 entry.1

  both : (entries : List (K × X)) → AllByRecursion Q entries → EachEntry R P entries → AllByRecursion Both entries
  both [] q p = tt
  both (entry ∷ entries) q p = ((q.0, p.0), both entries q.1 p.1)

-- ---- the records

module _ (lists : ReadsLists) where
  vector_inserts : (n : ℕ) (entry : Name × Vector) → IsVectorInRange entry × IsVector entry.0 entry.1
      → Inserts n (read_by_layouts n (vector_read entry.0 entry.1)) (vector_insertion entry.0 entry.1)
  unfolding record_content
  vector_inserts n entry is =
      let name = entry.0 in
      let vector = entry.1 in
      let kind = vector-kind n name vector in
      let coords = lists.vector_coords n name vector is.0 is.1 in
      let change = vector-is n (read_by_layouts n (vector_read name vector)) name vector is.1.named (vector-head n name vector is.0.name is.0.version) (record {
        attrs = lists.vector_attrs n name vector is.0 is.1;
        pointers = lists.vector_pointers n name vector is.0 is.1;
        points = coords.0;
        soundings = coords.1;
        without_depth = coords.2;
        with_depth = coords.3;
        coords = coords.4;
        alike = coords.5;
      }) in
      record { other = rw kind refl; says = rw (kind, change) refl }

  feature_inserts : (n : ℕ) (entry : Name × Feature) → IsFeatureEntryInRange entry × IsFeature entry.0 entry.1
      → Inserts n (read_by_layouts n (feature_read entry.0 entry.1)) (feature_insertion entry.0 entry.1)
  unfolding record_content
  feature_inserts n entry is =
      let name = entry.0 in
      let feature = entry.1 in
      let kind = feature-kind n name feature in
      let change = feature-is n (read_by_layouts n (feature_read name feature)) name feature is.1.named is.1.prim (feature-head n name feature is.0.name is.0.numbers) (record {
        attrs = lists.feature_attrs n name feature is.0 is.1;
        related = lists.feature_related n name feature is.0 is.1;
        pointers = lists.feature_pointers n name feature is.0 is.1;
        foid = lists.feature_foid n name feature is.0 is.1;
      }) in
      record { other = rw kind refl; says = rw (kind, change) refl }

  all_inserted : (cell : CellValue) → IsCell cell → IsCellInRange cell
      → AreInserted 3 (all_subfields (layout_at layouts) 3 (map (λ entry. vector_read entry.0 entry.1) (finite.entries cell.vectors) ++ map (λ entry. feature_read entry.0 entry.1) (finite.entries cell.features))) (insertions cell)
  unfolding insertions
  all_inserted cell is range =
      let vectors = both name_cmp IsVector IsVectorInRange (finite.entries cell.vectors) range.vectors (each-of-map name_cmp name_cmp-total name_cmp-IsAntisymmetric IsVector cell.vectors is.vectors) in
      let features = both name_cmp IsFeature IsFeatureEntryInRange (finite.entries cell.features) range.features (each-of-map name_cmp name_cmp-total name_cmp-IsAntisymmetric IsFeature cell.features is.features) in
      inserted-append (layout_at layouts) (λ entry. vector_read entry.0 entry.1) (λ entry. vector_insertion entry.0 entry.1)
      (λ entry. IsVectorInRange entry × IsVector entry.0 entry.1) vector_inserts
      (map (λ entry. feature_read entry.0 entry.1) (finite.entries cell.features))
      (map (λ entry. feature_insertion entry.0 entry.1) (finite.entries cell.features))
      (λ n. inserted (layout_at layouts) (λ entry. feature_read entry.0 entry.1) (λ entry. feature_insertion entry.0 entry.1)
      (λ entry. IsFeatureEntryInRange entry × IsFeature entry.0 entry.1) feature_inserts n (finite.entries cell.features) features)
      3 (finite.entries cell.vectors) vectors

  pub data-set-read : (cell : CellValue) → IsCell cell → IsCellInRange cell
      → dataset_of (all_subfields (layout_at layouts) 1 (records_read cell)) ≡ Ok (data_set_of cell)
  unfolding records_read
  data-set-read cell is range =
      data-set-is _ _ cell.header _ (insertions cell) (general-read cell range.header) (all_inserted cell is range)

  -- a file with these records
  data_set_of_records : (cell : CellValue) (file : List ℕ) → IsCell cell → IsCellInRange cell
      → record_file_of tags_read file ≡ Ok (record { descriptors = layouts; records = records_read cell })
      → data_set_in file ≡ Ok (data_set_of cell)
  unfolding data_set_in
  data_set_of_records cell file is range records = rw (records, data-set-read cell is range) refl

  -- the file that is written, where written files are read as their records
  pub file-read :
      ((cell : CellValue) (file : List ℕ) → IsCellInRange cell → base_file_of cell ≡ Ok file
      → record_file_of tags_read file ≡ Ok (record { descriptors = layouts; records = records_read cell }))
      → (cell : CellValue) (file : List ℕ) → IsCell cell → IsCellInRange cell → base_file_of cell ≡ Ok file
      → data_set_in file ≡ Ok (data_set_of cell)
  file-read records cell file is range whole = data_set_of_records cell file is range (records cell file range whole)
