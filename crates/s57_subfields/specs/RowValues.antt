-- The fields of one tag in a record.
use Rattle.std.specs.Prelude.{◌≡◌, ℕ, true, List, [], ◌∷◌, map, filter, Option, Some, None, slice_get}
use Rattle.std.specs.Option.{ForSome}
use Rattle.std.specs.Str.{bytes_eq}
use Rattle.iso8211_records.specs.declared.value.Value.{Value}
use Rattle.iso8211_records.specs.declared.record.RawField.{RawField}

-- the number of the data record, from 1, the tag, and the values of each field of the tag, in their order
pub record RowValues : Type 0 where
  pub number : ℕ
  pub tag : List ℕ
  pub fields : List (List Value)

abbrev pub fields_in : ℕ → List ℕ → List RawField → RowValues
fields_in number tag fields = record {
  number = number;
  tag = tag;
  fields = map (λ field. field.values) (filter (λ field. bytes_eq field.tag tag) fields);
}

abbrev pub first_of : List (List Value) → Option (List Value)
first_of [] = None
first_of (values ∷ more) = Some values

-- the first of the fields, where there is one, has the tag
abbrev pub BeginsWith : List ℕ → List RawField → Type 0
BeginsWith tag fields = ForSome (slice_get fields 0) (λ field. bytes_eq field.tag tag ≡ true)
