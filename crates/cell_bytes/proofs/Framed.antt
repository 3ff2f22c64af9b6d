-- Records are framed by the fields that were added.
use Rattle.std.proofs.Common.{◌≡◌, ℕ, ◌+◌, zero, suc, List, [], ◌∷◌, ◌++◌, length, refl, sym, ap, ◌∙◌, arith, append_assoc, append-nil, length-append}
use Rattle.chart_model.specs.Codes.{FIELD_TERMINATOR}
use Rattle.cell_bytes.specs.declared.fields.Fields.{Fields}
use Rattle.cell_bytes.specs.declared.fields.Kind.{Kind}
use Rattle.cell_bytes.specs.Record.{Field, only_fields, base_of, digits, entries, entry, field_area, record_bytes, leader_of}
use Rattle.cell_bytes.specs.Record.{of_data, no_fields, record_of, with_field, with_fields}

directory-with_fields : (before : Fields) (fields : List Field)
    → (with_fields before fields).directory ≡ before.directory ++ entries (length before.area) fields
unfolding entries with_field
directory-with_fields before [] = sym (append-nil before.directory)
directory-with_fields before (one ∷ more) =
    directory-with_fields (with_field before one) more
    ∙ append_assoc before.directory (entry (length before.area) one) (entries (length (before.area ++ one.1)) more)
    ∙ ap (λ (n : ℕ). before.directory ++ (entry (length before.area) one ++ entries n more))
    (length-append before.area one.1)

area-with_fields : (before : Fields) (fields : List Field)
    → (with_fields before fields).area ≡ before.area ++ field_area fields
unfolding field_area with_field
area-with_fields before [] = sym (append-nil before.area)
area-with_fields before (one ∷ more) =
    area-with_fields (with_field before one) more ∙ append_assoc before.area one.1 (field_area more)

-- the record of fields that were added is theirs
pub record_bytes_only_fields : (kind : Kind) (fields : List Field)
    → record_bytes kind (only_fields fields).directory (only_fields fields).area ≡ record_of kind fields
unfolding record_of
record_bytes_only_fields kind fields =
    ap (λ (d : List ℕ). record_bytes kind d (only_fields fields).area) (directory-with_fields no_fields fields)
    ∙ ap (record_bytes kind (entries 0 fields)) (area-with_fields no_fields fields)

pub length-digits : (count number : ℕ) → length (digits count number) ≡ count
unfolding digits
length-digits zero number = refl
length-digits (suc count) number = ap suc (length-digits count number)

pub length-leader_of : (base bytes : ℕ) → length (leader_of of_data base bytes) ≡ 24
unfolding leader_of digits
length-leader_of base bytes = refl

-- the bytes of a record
pub length-record_bytes : (directory area : List ℕ) → length (record_bytes of_data directory area) ≡ base_of directory + length area
unfolding record_bytes
length-record_bytes directory area =
    omega (
      arith,
      length-leader_of (base_of directory) (base_of directory + length area),
      length-append (leader_of of_data (base_of directory) (base_of directory + length area)) directory,
      length-append (leader_of of_data (base_of directory) (base_of directory + length area) ++ directory) (FIELD_TERMINATOR ∷ []),
      length-append (leader_of of_data (base_of directory) (base_of directory + length area) ++ directory ++ FIELD_TERMINATOR ∷ []) area,
    )

-- the length of a record that was made is that of its bytes
pub length-record_of : (fields : List Field)
    → base_of (only_fields fields).directory + length (only_fields fields).area ≡ length (record_of of_data fields)
length-record_of fields =
    sym (length-record_bytes (only_fields fields).directory (only_fields fields).area) ∙ ap length (record_bytes_only_fields of_data fields)
