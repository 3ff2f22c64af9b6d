-- The first field of a tag.
use Rattle.std.proofs.Common.{◌≡◌, ℕ, List, [], ◌∷◌, map, filter, refl}
use Rattle.std.specs.Prelude.{option_map, slice_get}
use Rattle.std.specs.Str.{bytes_eq}
use Rattle.iso8211_records.specs.declared.record.RawField.{RawField}
use Rattle.s57_subfields.specs.RowValues.{first_of, BeginsWith}

-- among fields that begin with one of the tag it is the first of all
pub first_of_begun :
    (tag : List ℕ) (fields : List RawField) → BeginsWith tag fields →
    first_of (map (λ field. field.values) (filter (λ field. bytes_eq field.tag tag) fields))
    ≡ option_map (λ field. field.values) (slice_get fields 0)
first_of_begun tag [] begins = refl
first_of_begun tag (field ∷ fields) begins = let same = begins field refl in rw same refl
