-- Fields with whole groups: what is read of a group doesn't look past its end.
use Rattle.std.proofs.Common.{◌≡◌, ◌≢◌, ◌∙◌, ℕ, zero, suc, ◌+◌, ◌-◌, ◌<◌, Bool, ◌||◌, true, false, ltb, List, [], ◌∷◌, ◌++◌}
use Rattle.std.proofs.Common.{length, drop, map, Option, Some, None, Result, Ok, Err, refl, sym, ap, inl, inr, arith}
use Rattle.std.specs.Prelude.{filter_map, flat_map, is_none, option_and_then, position, slice_get}
use Rattle.std.specs.List.{AllByRecursion, list_any}
use Rattle.std.specs.Str.{bytes_eq}
use Rattle.std.proofs.Math.Seq.{drop-append-add}
use Rattle.std.proofs.lemmas.Bool.{cases_Bool, ltb-false}
use Rattle.std.proofs.lemmas.List.{length-append, map-append}
use Rattle.std.proofs.lemmas.List.Quantifiers.{position-Some}
use Rattle.chart_model.specs.Answers.{first_of, unless, when}
use Rattle.iso8211_formats.specs.Layout.{Layout}
use Rattle.iso8211_records.specs.declared.value.Value.{Value}
use Rattle.s57_subfields.specs.declared.fault.FieldFault.{FieldFault}
use Rattle.s57_subfields.specs.declared.group.Groups.{Groups}
use Rattle.s57_subfields.specs.Answers.{missing_field, bad_value}
use Rattle.s57_subfields.specs.Groups.{group_size, GroupedField, values_in, IsGrouped, AreGrouped, groups_in, fault_in}
use Rattle.s57_subfields.specs.Lists.{Column, column_fault, column_of, distance, groups_in_fields, groups_of, list_fault}
use Rattle.s57_subfields.specs.Lists.{list_in, value_in}
use Rattle.s57_subfields.specs.Places.{group_start, place_at, subfield_of}
use Rattle.s57_subfields.specs.RowValues.{RowValues, first_of as first_field}
use Rattle.s57_subfields.specs.Tails.{behind, tails, tails_of}
use Rattle.s57_subfields.proofs.Lists.{AreSubfields, all-read, list-absent, list-faulty, list-there}
use Rattle.s57_subfields.proofs.Tails.{any, tails-drop, tails-step}

-- ---- a value

get-front : (xs ys : List Value) (n : ℕ) → n < length xs → slice_get (xs ++ ys) n ≡ slice_get xs n
get-front [] ys n lt = absurd (omega arith)
get-front (x ∷ xs) ys zero lt = refl
get-front (x ∷ xs) ys (suc n) lt = get-front xs ys n (omega arith)

value-front :
    {A : Type 0} (read : Value → Option A) (layout : Layout) (found : Option ℕ) (group rest : List Value) →
    ((at : ℕ) → found ≡ Some at → at < length layout.labels) → length group ≡ group_size layout →
    option_and_then (λ n. behind read n (group ++ rest)) (distance (place_at layout found))
    ≡ option_and_then (λ n. behind read n group) (distance (place_at layout found))
value-front read layout None group rest within size = refl
value-front read layout (Some at) group rest within size =
    let start = group_start layout in
    let labels = within at refl in
    elim (cases_Bool (ltb at start)) [
      | inl below ↦ rw below refl
      | inr above ↦
          let from = ltb-false at start above in
          rw above (ap (option_and_then read) (get-front group rest (at - start) (omega arith)))
    ]

-- a group's value under a label is the same with what stands behind the group
pub in_group-front :
    {A : Type 0} (read : Value → Option A) (layout : Layout) (label : List ℕ) (group rest : List Value) →
    length group ≡ group_size layout →
    value_in read (subfield_of (Some layout) label) (group ++ rest) ≡ value_in read (subfield_of (Some layout) label) group
in_group-front read layout label group rest size =
    let test = λ (other : List ℕ). bytes_eq other label in
    value-front read layout (position test layout.labels) group rest
    (λ at found. (position-Some test layout.labels at [] found).0) size

-- where nothing repeats no label is in a group
pub nothing-repeats :
    (layout : Layout) (label : List ℕ) → group_size layout ≡ 0 →
    is_none (distance (subfield_of (Some layout) label).place) ≡ true
nothing-repeats layout label size =
    let test = λ (other : List ℕ). bytes_eq other label in
    at-none (position test layout.labels) (λ at found. (position-Some test layout.labels at [] found).0)
  where
    at-none :
        (found : Option ℕ) → ((at : ℕ) → found ≡ Some at → at < length layout.labels) →
        is_none (distance (place_at layout found)) ≡ true
    at-none None within = refl
    at-none (Some at) within =
        let labels = within at refl in
        elim (cases_Bool (ltb at (group_start layout))) [
          | inl below ↦ rw below refl
          | inr above ↦ let from = ltb-false at (group_start layout) above in absurd (omega arith)
        ]

-- ---- all groups

abbrev joined : List (List Value) → List Value
joined groups = flat_map (λ group. group) groups

-- what is seen of a group is the same with what stands behind it
abbrev pub SeesFront : {B : Type 0} → Layout → (List Value → B) → Type 0
SeesFront layout see = (group rest : List Value) → length group ≡ group_size layout → see (group ++ rest) ≡ see group

tails-group :
    (between : ℕ) (group rest : List Value) → length group ≡ between + 1 →
    tails between 0 (group ++ rest) ≡ (group ++ rest) ∷ tails between 0 rest
tails-group between group rest size =
    let whole : 0 < length (group ++ rest) = omega (arith, length-append group rest) in
    let next : 0 + (between + 1) ≡ length group + 0 = omega arith in
    tails-step between 0 (group ++ rest) any whole
    ∙ ap (λ (k : ℕ). (group ++ rest) ∷ tails between 0 (drop k (group ++ rest))) next
    ∙ ap (λ (values : List Value). (group ++ rest) ∷ tails between 0 values) (drop-append-add group rest 0)

module _ {B : Type 0} (layout : Layout) (see : List Value → B) (front : SeesFront layout see) (some : 0 < group_size layout) where
  abbrev between : ℕ
  between = group_size layout - 1

  see-groups :
      (groups : List (List Value)) → AllByRecursion (λ group. length group ≡ group_size layout) groups →
      map see (tails between 0 (joined groups)) ≡ map see groups
  see-groups [] whole = refl
  see-groups (group ∷ groups) whole =
      ap (map see) (tails-group between group (joined groups) (omega (arith, whole.0)))
      ∙ ap (λ (first : B). first ∷ map see (tails between 0 (joined groups))) (front group (joined groups) whole.0)
      ∙ ap (λ (more : List B). see group ∷ more) (see-groups groups whole.1)

  see-field :
      (field : GroupedField) → IsGrouped layout field →
      map see (tails between (group_start layout) (values_in field)) ≡ map see field.groups
  see-field field grouped =
      let start : group_start layout ≡ length field.once + 0 = omega (arith, grouped.once) in
      ap (map see)
      (tails-drop between (group_start layout) (values_in field)
      ∙ ap (λ (k : ℕ). tails between 0 (drop k (values_in field))) start
      ∙ ap (tails between 0) (drop-append-add field.once (joined field.groups) 0))
      ∙ see-groups field.groups grouped.groups

  see-fields :
      (parts : List GroupedField) → AllByRecursion (IsGrouped layout) parts →
      map see (tails_of (group_start layout) between (map values_in parts)) ≡ map see (groups_in parts)
  see-fields [] whole = refl
  see-fields (field ∷ parts) whole =
      let here = tails between (group_start layout) (values_in field) in
      let more = tails_of (group_start layout) between (map values_in parts) in
      map-append see here more
      ∙ ap (λ (front : List B). front ++ map see more) (see-field field whole.0)
      ∙ ap (λ (rest : List B). map see field.groups ++ rest) (see-fields parts whole.1)
      ∙ sym (map-append see field.groups (groups_in parts))

  see-all :
      (row : RowValues) (parts : List GroupedField) → AreGrouped layout parts row.fields →
      map see (groups_in_fields (groups_of (Some layout)) row) ≡ map see (groups_in parts)
  see-all row parts grouped =
      ap (λ (fields : List (List Value)). map see (tails_of (group_start layout) between fields)) grouped.values
      ∙ see-fields parts grouped.whole

-- ---- the list

list_any-map :
    (test : List Value → Bool) (xs : List (List Value)) → list_any test xs ≡ list_any (λ (b : Bool). b) (map test xs)
list_any-map test [] = refl
list_any-map test (x ∷ xs) = ap (λ (rest : Bool). test x || rest) (list_any-map test xs)

same-test :
    (test : List Value → Bool) (xs ys : List (List Value)) → map test xs ≡ map test ys →
    list_any test xs ≡ list_any test ys
same-test test xs ys e = list_any-map test xs ∙ ap (list_any (λ (b : Bool). b)) e ∙ sym (list_any-map test ys)

column-same :
    (row : RowValues) (xs ys : List (List Value)) (column : Column) →
    list_any column.is_unread xs ≡ list_any column.is_unread ys → column_fault row xs column ≡ column_fault row ys column
unfolding column_fault
column-same row xs ys column e =
    ap (λ (so : Bool). first_of (
    when (is_none (distance column.subfield.place)) (missing_field row)
    ∷ when so (bad_value row column.subfield.label)
    ∷ [])) e

there : (fields : List (List Value)) → fields ≢ [] → is_none (first_field fields) ≡ false
there [] some = absurd (some refl)
there (values ∷ fields) some = refl

-- What is proved of a row's list by its definition: its groups are those of its subfields, the first of which is this.
pub record IsListOf
    {A F : Type 0}
    (layout : Layout)
    (reads : List Value → Option A)
    (read : Value → Option F)
    (label : List ℕ)
    (more : List Column)
    : Type 0 where
  pub are : AreSubfields reads (column_of read (subfield_of (Some layout) label) ∷ more)
  pub front : SeesFront layout reads
  pub fronts : AllByRecursion (λ (column : Column). SeesFront layout column.is_unread) more

faults-same :
    (layout : Layout) (row : RowValues) (parts : List GroupedField) (columns : List Column) → 0 < group_size layout →
    AreGrouped layout parts row.fields → AllByRecursion (λ (column : Column). SeesFront layout column.is_unread) columns →
    list_fault row (groups_in_fields (groups_of (Some layout)) row) columns ≡ list_fault row (groups_in parts) columns
faults-same layout row parts [] some grouped fronts = refl
faults-same layout row parts (column ∷ columns) some grouped fronts =
    let tails = groups_in_fields (groups_of (Some layout)) row in
    let groups = groups_in parts in
    let here = column-same row tails groups column
    (same-test column.is_unread tails groups (see-all layout column.is_unread fronts.0 some row parts grouped)) in
    first-same (column_fault row tails column) (column_fault row groups column) _ _ here
    (faults-same layout row parts columns some grouped fronts.1)
  where
    first-same :
        (a b : Option FieldFault) (xs ys : List (Option FieldFault)) → a ≡ b → first_of xs ≡ first_of ys →
        first_of (a ∷ xs) ≡ first_of (b ∷ ys)
    first-same None None xs ys e rest = rest
    first-same (Some a) (Some b) xs ys e rest = e
    first-same None (Some b) xs ys e rest = absurd cc
    first-same (Some a) None xs ys e rest = absurd cc

-- a file without a descriptor of the field doesn't have its first label
pub list-undescribed :
    {A F : Type 0} (reads : List Value → Option A) (read : Value → Option F) (label : List ℕ) (more : List Column)
    (groups : Groups) (row : RowValues) → row.fields ≢ [] →
    list_in reads (column_of read (subfield_of None label) ∷ more) groups row ≡ Err (missing_field row)
unfolding column_fault
list-undescribed reads read label more groups row some =
    list-faulty reads (column_of read (subfield_of None label) ∷ more) groups row (missing_field row) (there row.fields some) refl

module _
    {A F : Type 0} (layout : Layout) (reads : List Value → Option A) (read : Value → Option F) (label : List ℕ)
    (more : List Column) (is : IsListOf layout reads read label more)
  where
    abbrev columns : List Column
    columns = column_of read (subfield_of (Some layout) label) ∷ more

    abbrev answer : RowValues → Result (List A) FieldFault
    answer row = list_in reads columns (groups_of (Some layout)) row

    -- where nothing repeats, the first label is missing
    unrepeated :
        (row : RowValues) (groups : List (List Value)) → group_size layout ≡ 0 →
        list_fault row groups columns ≡ Some (missing_field row)
    unfolding column_fault
    unrepeated row groups none = let first = nothing-repeats layout label none in rw first refl

    fault-same :
        (row : RowValues) (parts : List GroupedField) → AreGrouped layout parts row.fields →
        list_fault row (groups_in_fields (groups_of (Some layout)) row) columns ≡ list_fault row (groups_in parts) columns
    fault-same row parts grouped =
        of_size (group_size layout) refl
      where
        of_size :
            (n : ℕ) → group_size layout ≡ n →
            list_fault row (groups_in_fields (groups_of (Some layout)) row) columns ≡ list_fault row (groups_in parts) columns
        of_size zero none =
            unrepeated row (groups_in_fields (groups_of (Some layout)) row) none ∙ sym (unrepeated row (groups_in parts) none)
        of_size (suc n) some =
            faults-same layout row parts columns (omega arith) grouped
            ((λ group rest size. ap is_none (in_group-front read layout label group rest size)), is.fronts)

    fault-of :
        (fault : Option FieldFault) (items : List A) → fault_in (unless fault items) ≡ fault
    fault-of None items = refl
    fault-of (Some fault) items = refl

    pub first-fault :
        (row : RowValues) (parts : List GroupedField) → AreGrouped layout parts row.fields → row.fields ≢ [] →
        fault_in (answer row) ≡ list_fault row (groups_in parts) columns
    first-fault row parts grouped some =
        ap fault_in (list-there reads columns (groups_of (Some layout)) row (there row.fields some))
        ∙ fault-of _ _ ∙ fault-same row parts grouped

    no_groups : (parts : List GroupedField) → [] ≡ map values_in parts → groups_in parts ≡ []
    no_groups [] none = refl
    no_groups (field ∷ parts) none = absurd cc

    unless-ok : (fault : Option FieldFault) (xs items : List A) → unless fault xs ≡ Ok items → (fault ≡ None) × (xs ≡ items)
    unless-ok None xs items e = (refl, cc)
    unless-ok (Some fault) xs items e = absurd cc

    ok-nil : (items : List A) → ◌≡◌ {A = Result (List A) FieldFault} (Ok []) (Ok items) → [] ≡ items
    ok-nil items e = cc

    sized :
        (row : RowValues) (groups : List (List Value)) (n : ℕ) → group_size layout ≡ n →
        list_fault row groups columns ≡ None → 0 < group_size layout
    sized row groups zero none calm =
        let bad : Some (missing_field row) ≡ None = sym (unrepeated row groups none) ∙ calm in
        absurd cc
    sized row groups (suc n) some calm = omega arith

    pub items-are_groups :
        (row : RowValues) (parts : List GroupedField) (items : List A) → AreGrouped layout parts row.fields →
        answer row ≡ Ok items → map reads (groups_in parts) ≡ map (λ item. Some item) items
    items-are_groups row parts items grouped e =
        by-fields row.fields refl
      where
        by-fields :
            (fields : List (List Value)) → row.fields ≡ fields →
            map reads (groups_in parts) ≡ map (λ item. Some item) items
        by-fields [] same =
            let none = list-absent reads columns (groups_of (Some layout)) row
            (ap (λ (fields : List (List Value)). is_none (first_field fields)) same) in
            let nil : [] ≡ items = ok-nil items (sym none ∙ e) in
            ap (map reads) (no_groups parts (sym same ∙ grouped.values)) ∙ ap (map (λ item. Some item)) nil
        by-fields (values ∷ fields) same =
            let tails = groups_in_fields (groups_of (Some layout)) row in
            let some = list-there reads columns (groups_of (Some layout)) row
            (ap (λ (fields : List (List Value)). is_none (first_field fields)) same) in
            let parted = unless-ok (list_fault row tails columns) (filter_map reads tails) items (sym some ∙ e) in
            sym (see-all layout reads is.front (sized row tails (group_size layout) refl parted.0) row parts grouped)
            ∙ all-read reads columns row tails is.are parted.0
            ∙ ap (map (λ item. Some item)) parted.1
