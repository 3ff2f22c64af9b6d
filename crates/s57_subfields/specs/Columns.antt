-- What stands under a label that stands once.
use Rattle.std.specs.Prelude.{ℕ, Option, Some, None, option_and_then, slice_get, Result}
use Rattle.iso8211_records.specs.declared.value.Value.{Value}
use Rattle.s57_subfields.specs.declared.fault.FieldFault.{FieldFault}
use Rattle.s57_subfields.specs.declared.subfield.Place.{Place}
use Rattle.s57_subfields.specs.declared.subfield.Place.TheVariants.{Missing, Once, Repeated}
use Rattle.s57_subfields.specs.declared.subfield.Subfield.{Subfield}
use Rattle.s57_subfields.specs.RowValues.{RowValues, first_of}
use Rattle.chart_model.specs.Answers.{◌>>=◌, or_fault}
use Rattle.s57_subfields.specs.Answers.{missing_field, bad_value}

-- the place of a label that stands once
abbrev pub once_at : Place → Option ℕ
once_at Missing = None
once_at (Once at) = Some at
once_at (Repeated n) = None

-- what the subfield of the record's first field of the tag is read as: it is missing where the descriptor or the
-- record doesn't have it, and bad where its value isn't what it has to be
unfoldable pub once_in : {A : Type 0} → (Value → Option A) → RowValues → Subfield → Result A FieldFault
once_in read row subfield = do
  at ← or_fault (missing_field row) (once_at subfield.place)
  values ← or_fault (missing_field row) (first_of row.fields)
  or_fault (bad_value row subfield.label) (option_and_then read (slice_get values at))
