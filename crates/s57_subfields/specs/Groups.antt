-- The lists of a record, group by group: what each item is read from, and which fault comes first.
use Rattle.std.specs.Prelude.{◌≡◌, ◌≢◌, ℕ, ◌-◌, List, [], ◌++◌, length, map, flat_map}
use Rattle.std.specs.Prelude.{Option, Some, None, Result, Ok, Err}
use Rattle.std.specs.List.{AllByRecursion}
use Rattle.chart_model.specs.Answers.{first_of}
use Rattle.iso8211_formats.specs.Layout.{Layout}
use Rattle.iso8211_records.specs.declared.value.Value.{Value}
use Rattle.s57_subfields.specs.declared.fault.FieldFault.{FieldFault}
use Rattle.s57_subfields.specs.Answers.{missing_field}
use Rattle.s57_subfields.specs.Lists.{column_fault, column_of, value_in}
use Rattle.s57_subfields.specs.Places.{group_start, subfield_of}
use Rattle.s57_subfields.specs.RowValues.{RowValues}

-- ---- the groups of a record's fields

-- how many values a group has
abbrev pub group_size : Layout → ℕ
group_size layout = length layout.labels - group_start layout

-- the values of a field: those that stand once, and then those of each group
pub record GroupedField : Type 0 where
  pub once : List Value
  pub groups : List (List Value)

abbrev pub values_in : GroupedField → List Value
values_in field = field.once ++ flat_map (λ group. group) field.groups

-- whole groups: as many values as there are labels
pub record IsGrouped (layout : Layout) (field : GroupedField) : Type 0 where
  pub once : length field.once ≡ group_start layout
  pub groups : AllByRecursion (λ group. length group ≡ group_size layout) field.groups

-- the fields are these, each with whole groups
pub record AreGrouped (layout : Layout) (parts : List GroupedField) (fields : List (List Value)) : Type 0 where
  pub whole : AllByRecursion (IsGrouped layout) parts
  pub values : fields ≡ map values_in parts

-- the groups of all fields, in their order
abbrev pub groups_in : List GroupedField → List (List Value)
groups_in parts = flat_map (λ field. field.groups) parts

-- ---- what a group is read as

-- what the group's value under a label is read as
abbrev pub in_group : {A : Type 0} → (Value → Option A) → Layout → List ℕ → List Value → Option A
in_group read layout label group = value_in read (subfield_of (Some layout) label) group

-- As many items as groups, and each is what its group is read as.
abbrev pub ItemsAreGroups :
    {A : Type 0} → (Layout → List Value → Option A) → (Option Layout → RowValues → Result (List A) FieldFault) → Type 0
ItemsAreGroups {A} item_in list_in =
    (layout : Layout) (row : RowValues) (parts : List GroupedField) (items : List A) →
    AreGrouped layout parts row.fields →
    list_in (Some layout) row ≡ Ok items → map (item_in layout) (groups_in parts) ≡ map (λ item. Some item) items

-- ---- what is wrong

-- what is wrong under a label: it isn't in the repeated group, or a group's value isn't what it has to be
abbrev pub fault_under :
    {A : Type 0} → (Value → Option A) → List ℕ → Layout → RowValues → List (List Value) → Option FieldFault
fault_under read label layout row groups =
    column_fault row groups (column_of read (subfield_of (Some layout) label))

abbrev pub fault_in : {A : Type 0} → Result A FieldFault → Option FieldFault
fault_in (Ok x) = None
fault_in (Err fault) = Some fault

-- A record without the field has the empty list. Where it has the field, but the file no descriptor of it, the row is
-- missing. Else the fault is that of the first label of the row with one, and there is none where no label has one.
pub record FaultIsFirst
    {A : Type 0}
    (faults : Layout → RowValues → List (List Value) → List (Option FieldFault))
    (list_in : Option Layout → RowValues → Result (List A) FieldFault)
    : Type 0 where
  pub absent : (layout : Option Layout) (row : RowValues) → row.fields ≡ [] → list_in layout row ≡ Ok []
  pub undescribed : (row : RowValues) → row.fields ≢ [] → list_in None row ≡ Err (missing_field row)
  pub first :
      (layout : Layout) (row : RowValues) (parts : List GroupedField) → AreGrouped layout parts row.fields →
      row.fields ≢ [] → fault_in (list_in (Some layout) row) ≡ first_of (faults layout row (groups_in parts))
