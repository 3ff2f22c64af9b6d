-- What a file holds, as plain values.
use Rattle.std.specs.Prelude.{ℕ, List}
use Rattle.std.specs.List.{AllByRecursion}
use Rattle.iso8211_formats.specs.Layout.{Layout}
use Rattle.iso8211_records.specs.declared.record.RawField.{RawField}
use Rattle.iso8211_records.specs.Kinds.{FitsTag}

-- the layouts of the listed tags, in the order of the data descriptive record's directory and each tag
-- once, and the fields of each data record
pub record FileValue : Type 0 where
  pub descriptors : List (List ℕ × Layout)
  pub records : List (List RawField)

-- each field's values fit the layout under its tag
abbrev pub KeepsKinds : List (List ℕ × Layout) → List (List RawField) → Type 0
KeepsKinds descriptors records = AllByRecursion (λ fields. AllByRecursion (FitsTag descriptors) fields) records
