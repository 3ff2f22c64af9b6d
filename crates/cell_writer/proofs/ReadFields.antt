-- The fields under a tag among the lists of a written record, and whether there is one.
use Rattle.std.proofs.Common.{◌≡◌, ◌∙◌, ℕ, Bool, true, false, cond, List, [], ◌∷◌, ◌++◌, map, filter, refl, sym, ap, append-nil, append_assoc, inl, inr}
use Rattle.std.specs.Prelude.{flat_map}
use Rattle.std.specs.List.{AllByRecursion}
use Rattle.std.specs.Str.{bytes_eq}
use Rattle.std.proofs.lemmas.Bool.{cases_Bool}
use Rattle.std.proofs.lemmas.List.{map-append}
use Rattle.std.proofs.lemmas.List.Elements.{filter-append}
use Rattle.iso8211_records.specs.declared.record.RawField.{RawField}
use Rattle.iso8211_records.specs.declared.value.Value.{Value}
use Rattle.s57_records.specs.LayoutReadings.{has_field}
use Rattle.cell_bytes.specs.RecordsRead.{read_list}
use Rattle.cell_writer.proofs.ReadLists.{fields_with}

-- the values of the fields of a tag
abbrev pub values_under : List ℕ → List RawField → List (List Value)
values_under tag fields = map (λ field. field.values) (filter (λ field. bytes_eq field.tag tag) fields)

-- those of a list with this text
abbrev pub values_of : List ℕ → List Value → List (List Value)
values_of [] values = []
values_of (byte ∷ text) values = values ∷ []

-- those of a list with this tag and this text
abbrev pub values_in : List ℕ → List ℕ → List ℕ → List Value → List (List Value)
values_in tag own text values = cond (bytes_eq own tag) (values_of text values) []

-- ---- a list, and lists one behind the other

pub under-list : (tag own text : List ℕ) (values : List Value) → values_under tag (read_list own text values) ≡ values_in tag own text values
under-list tag own [] values =
    elim (cases_Bool (bytes_eq own tag)) [ inl same ↦ rw same refl | inr differs ↦ rw differs refl ]
under-list tag own (byte ∷ text) values =
    elim (cases_Bool (bytes_eq own tag)) [ inl same ↦ rw same refl | inr differs ↦ rw differs refl ]

-- lists with their tags and texts, behind other fields of a record
pub record WrittenList : Type 0 where
  pub tag : List ℕ
  pub text : List ℕ
  pub values : List Value

abbrev pub with_lists : List RawField → List WrittenList → List RawField
with_lists front [] = front
with_lists front (list ∷ lists) = with_lists (front ++ read_list list.tag list.text list.values) lists

abbrev pub lists_under : List ℕ → List WrittenList → List (List Value)
lists_under tag lists = flat_map (λ list. values_in tag list.tag list.text list.values) lists

under-append : (tag : List ℕ) (front : List RawField) (list : WrittenList)
    → values_under tag (front ++ read_list list.tag list.text list.values) ≡ values_under tag front ++ values_in tag list.tag list.text list.values
under-append tag front list =
    let test : RawField → Bool = λ field. bytes_eq field.tag tag in
    let last : List RawField = read_list list.tag list.text list.values in
    ap (map (λ (field : RawField). field.values)) (filter-append test front last)
    ∙ map-append (λ (field : RawField). field.values) (filter test front) (filter test last)
    ∙ ap (λ (behind : List (List Value)). values_under tag front ++ behind) (under-list tag list.tag list.text list.values)

pub under-lists : (tag : List ℕ) (front : List RawField) (lists : List WrittenList)
    → values_under tag (with_lists front lists) ≡ values_under tag front ++ lists_under tag lists
under-lists tag front [] = sym (append-nil (values_under tag front))
under-lists tag front (list ∷ lists) =
    under-lists tag (front ++ read_list list.tag list.text list.values) lists
    ∙ ap (λ (before : List (List Value)). before ++ lists_under tag lists) (under-append tag front list)
    ∙ append_assoc (values_under tag front) (values_in tag list.tag list.text list.values) (lists_under tag lists)

-- ---- the items of a list

-- a list whose items each have bytes has its field where it has an item
pub values-items : {X : Type 0} (text : X → List ℕ) (values : X → List Value) (P : X → Type 0)
    → ((x : X) → P x → (byte : ℕ) × (rest : List ℕ) × (text x ≡ byte ∷ rest)) → (xs : List X) → AllByRecursion P xs
    → values_of (flat_map text xs) (flat_map values xs) ≡ fields_with values xs
values-items text values P spelled [] all = refl
values-items text values P spelled (x ∷ xs) all =
    let bytes = spelled x all.0 in
    ap (λ (front : List ℕ). values_of (front ++ flat_map text xs) (flat_map values (x ∷ xs))) bytes.2

-- one whose items have none has no field
pub no-text : {X : Type 0} (text : X → List ℕ) (P : X → Type 0) → ((x : X) → P x → text x ≡ []) → (xs : List X) → AllByRecursion P xs
    → flat_map text xs ≡ []
no-text text P empty [] all = refl
no-text text P empty (x ∷ xs) all =
    ap (λ (front : List ℕ). front ++ flat_map text xs) (empty x all.0) ∙ no-text text P empty xs all.1

-- ---- whether there is a field

abbrev pub is_there : List (List Value) → Bool
is_there [] = false
is_there (values ∷ more) = true

pub has-under : (tag : List ℕ) (fields : List RawField) → has_field fields tag ≡ is_there (values_under tag fields)
has-under tag [] = refl
has-under tag (field ∷ fields) =
    elim (cases_Bool (bytes_eq field.tag tag)) [ inl same ↦ rw same refl | inr differs ↦ rw differs (has-under tag fields) ]
