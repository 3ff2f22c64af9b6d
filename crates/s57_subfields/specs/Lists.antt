-- The lists of a record: what the groups of its fields are read as, and what is wrong with them.
use Rattle.std.proofs.Common.{ap}
use Rattle.std.specs.Prelude.{◌≡◌, ℕ, ◌-◌, Bool, true, List, [], ◌∷◌, filter_map, is_none, length, map}
use Rattle.std.specs.Prelude.{Option, Some, None, option_and_then, Result, Ok}
use Rattle.std.specs.List.{list_any}
use Rattle.iso8211_formats.specs.Layout.{Layout}
use Rattle.iso8211_records.specs.declared.value.Value.{Value}
use Rattle.s57_subfields.specs.declared.fault.FieldFault.{FieldFault}
use Rattle.s57_subfields.specs.declared.group.Groups.{Groups}
use Rattle.s57_subfields.specs.declared.subfield.Place.{Place}
use Rattle.s57_subfields.specs.declared.subfield.Place.TheVariants.{Missing, Once, Repeated}
use Rattle.s57_subfields.specs.declared.subfield.Subfield.{Subfield}
use Rattle.chart_model.specs.Answers.{when, first_of, unless}
use Rattle.s57_subfields.specs.Answers.{missing_field, bad_value}
use Rattle.s57_subfields.specs.Places.{group_start}
use Rattle.s57_subfields.specs.RowValues.{RowValues}
use Rattle.s57_subfields.specs.Tails.{tails_of, behind}

-- what is read next
infixl 10 ◌>>=◌
abbrev pub ◌>>=◌ : {A B : Type 0} → Option A → (A → Option B) → Option B
option >>= next = option_and_then next option

-- ---- the groups

-- where the groups of a field with this layout stand
abbrev pub groups_of : Option Layout → Groups
groups_of None = record { at = 0; between = 0 }
groups_of (Some layout) = record {
  at = group_start layout;
  between = length layout.labels - group_start layout - 1;
}

-- the groups of the record's fields, each by the values from its first one on
abbrev pub groups_in_fields : Groups → RowValues → List (List Value)
groups_in_fields groups row = tails_of groups.at groups.between row.fields

-- ---- a subfield of the groups

-- how far behind the first value of its group a label's value stands
abbrev pub distance : Place → Option ℕ
distance Missing = None
distance (Once at) = None
distance (Repeated n) = Some n

-- what a group's value of the subfield is read as
abbrev pub value_in : {A : Type 0} → (Value → Option A) → Subfield → List Value → Option A
value_in read subfield group = option_and_then (λ n. behind read n group) (distance subfield.place)

-- A subfield of a list, with the groups in which its value isn't what it has to be: in all of them where the subfield
-- isn't in the repeated group.
pub record Column : Type 0 where
  pub subfield : Subfield
  pub is_unread : List Value → Bool
  pub unread_if_missing : distance subfield.place ≡ None → (group : List Value) → is_unread group ≡ true

abbrev pub column_of : {A : Type 0} → (Value → Option A) → Subfield → Column
column_of read subfield = record {
  subfield = subfield;
  is_unread = λ group. is_none (value_in read subfield group);
  unread_if_missing = λ none group.
      ap (λ (place : Option ℕ). is_none (option_and_then (λ n. behind read n group) place)) none;
}

-- what is wrong under a subfield: it isn't in the repeated group, or a group's value isn't what it has to be
unfoldable pub column_fault : RowValues → List (List Value) → Column → Option FieldFault
column_fault row groups column =
    first_of (
    when (is_none (distance column.subfield.place)) (missing_field row)
    ∷ when (list_any column.is_unread groups) (bad_value row column.subfield.label)
    ∷ [])

-- ---- the list

-- the fault of the first subfield of the row that has one in any group
abbrev pub list_fault : RowValues → List (List Value) → List Column → Option FieldFault
list_fault row groups columns = first_of (map (column_fault row groups) columns)

-- the empty list where the record has no field of the tag
abbrev pub list_if_there : {A : Type 0} → List (List Value) → Result (List A) FieldFault → Result (List A) FieldFault
list_if_there [] answer = Ok []
list_if_there (values ∷ more) answer = answer

-- What each group is read as, unless there is a fault.
unfoldable pub list_in :
    {A : Type 0} → (List Value → Option A) → List Column → Groups → RowValues → Result (List A) FieldFault
list_in reads columns groups row =
    list_if_there row.fields
    (unless (list_fault row (groups_in_fields groups row) columns) (filter_map reads (groups_in_fields groups row)))
