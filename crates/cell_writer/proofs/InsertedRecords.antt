-- The data set of records of which each is known to insert.
use Rattle.std.proofs.Common.{◌≡◌, ℕ, suc, ◌≤◌, Bool, true, false, cond, List, [], ◌∷◌, ◌++◌, Ok, refl, ap, ◌∙◌, map}
use Rattle.std.specs.Prelude.{codes, filter_map}
use Rattle.std.specs.List.{AllByRecursion}
use Rattle.chart_model.specs.declared.dataset.Header.{Header}
use Rattle.chart_model.specs.Change.{Change}
use Rattle.iso8211_records.specs.declared.record.RawField.{RawField}
use Rattle.s57_records.specs.Subfields.{Subfields}
use Rattle.s57_records.specs.LayoutReadings.{Layouts, all_subfields, subfields_of}
use Rattle.s57_records.specs.Rows.{checked_structure, scale_of}
use Rattle.s57_records.specs.Dataset.{Kind, all_of, change_in, change_is, dataset_after, dataset_of, is_parameters, kind_of, records_looked_at, parameters, record_content, scale_is}
use Rattle.cell_writer.proofs.RecordFacts.{ReadsHeader, general-is}

-- the record of this number inserts, and isn't one of parameters
pub record Inserts (n : ℕ) (s : Subfields) (change : Change) : Type 0 where
  pub other : is_parameters (kind_of s) ≡ false
  pub says : record_content true n s (kind_of s) ≡ Ok (change_is change)

-- the records from this number on insert, in their order
abbrev pub AreInserted : ℕ → List Subfields → List Change → Type 0
AreInserted n [] [] = Unit {0}
AreInserted n (s ∷ records) (change ∷ changes) = Inserts n s change × AreInserted (suc n) records changes
AreInserted n _ _ = ⊥

said : (seen : Bool) (n : ℕ) (records : List Subfields) (changes : List Change) → AreInserted n records changes
    → all_of (map (λ r. record_content true r.0 r.1 (kind_of r.1)) (records_looked_at seen n records)) ≡ Ok (map change_is changes)
said seen n [] [] are = refl
said seen n [] (change ∷ changes) are = absurd are
said seen n (s ∷ records) [] are = absurd are
said seen n (s ∷ records) (change ∷ changes) are =
    let first : Inserts n s change = are.0 in
    rw (first.other, first.says, said seen (suc n) records changes are.1) refl

changes_of : (changes : List Change) → filter_map change_in (map change_is changes) ≡ changes
changes_of [] = refl
changes_of (change ∷ changes) = ap (λ (rest : List Change). change ∷ rest) (changes_of changes)

-- the records of a base file's header, and what follows them
pub record ReadsGeneral (first second : Subfields) (header : Header) : Type 0 where
  pub named : first.has (codes "DSID") ≡ true
  pub some : 1 ≤ header.edition
  pub reads : ReadsHeader first header
  pub structure : checked_structure first ≡ Ok tt
  pub kind : kind_of second ≡ parameters
  pub scale : scale_of second ≡ Ok header.scale

-- what a record of parameters says
scale_said : (second : Subfields) (scale : ℕ) → kind_of second ≡ parameters → scale_of second ≡ Ok scale
    → record_content true 2 second (kind_of second) ≡ Ok (scale_is scale)
unfolding record_content
scale_said second scale kind is = rw (kind, is) refl

all_said : (second : Subfields) (scale : ℕ) (records : List Subfields) (changes : List Change)
    → kind_of second ≡ parameters → scale_of second ≡ Ok scale → AreInserted 3 records changes
    → all_of (map (λ r. record_content true r.0 r.1 (kind_of r.1)) (records_looked_at false 2 (second ∷ records))) ≡ Ok (scale_is scale ∷ map change_is changes)
all_said second scale records changes kind is are =
    ap (λ (k : Kind). all_of (map (λ (r : ℕ × Subfields). record_content true r.0 r.1 (kind_of r.1)) (cond (is_parameters k) ((2, second) ∷ records_looked_at true 3 records) ((2, second) ∷ records_looked_at false 3 records)))) kind
    ∙ rw (scale_said second scale kind is, said true 3 records changes are) refl

pub data-set-is : (first second : Subfields) (header : Header) (records : List Subfields) (changes : List Change)
    → ReadsGeneral first second header → AreInserted 3 records changes
    → dataset_of (first ∷ (second ∷ records)) ≡ Ok (record { header = header; base = true; cancels = false; changes = changes })
unfolding dataset_of dataset_after
data-set-is first second header records changes general are =
    let all = all_said second header.scale records changes general.kind general.scale are in
    rw (general.named, general-is first header general.some general.reads, general.structure, all, changes_of changes) refl

-- ---- the records of entries

module _ (layouts : Layouts) {E : Type 0} (fields : E → List RawField) (change : E → Change) (Fits : E → Type 0)
    (each : (n : ℕ) (entry : E) → Fits entry → Inserts n (subfields_of layouts n (fields entry)) (change entry)) where
  -- those of entries that fit, and then others
  pub inserted-append : (more : List (List RawField)) (changes : List Change)
      → ((n : ℕ) → AreInserted n (all_subfields layouts n more) changes) → (n : ℕ) (entries : List E)
      → AllByRecursion Fits entries
      → AreInserted n (all_subfields layouts n (map fields entries ++ more)) (map change entries ++ changes)
  inserted-append more changes others n [] fit = others n
  inserted-append more changes others n (entry ∷ entries) fit =
      (each n entry fit.0, inserted-append more changes others (suc n) entries fit.1)

  pub inserted : (n : ℕ) (entries : List E) → AllByRecursion Fits entries
      → AreInserted n (all_subfields layouts n (map fields entries)) (map change entries)
  inserted n [] fit = tt
  inserted n (entry ∷ entries) fit = (each n entry fit.0, inserted (suc n) entries fit.1)
