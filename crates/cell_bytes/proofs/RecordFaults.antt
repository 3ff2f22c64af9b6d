-- The lengths of numbered records, and the first of their faults.
use Rattle.std.proofs.Common.{◌≡◌, ℕ, ◌+◌, List, [], ◌∷◌, ◌++◌, length, Option, Some, None, refl, sym, ap, ◌∙◌, length-append}
use Rattle.std.specs.Option.{option_or}
use Rattle.chart_model.specs.declared.name.Name.{Name}
use Rattle.chart_model.specs.declared.cell.Vector.{Vector}
use Rattle.chart_model.specs.declared.cell.Feature.{Feature}
use Rattle.chart_model.specs.Answers.{first_of}
use Rattle.chart_model.specs.Codes.{FIELD_TERMINATOR}
use Rattle.cell_bytes.specs.declared.fields.Fields.{Fields}
use Rattle.cell_bytes.specs.declared.fault.WriteFault.{WriteFault}
use Rattle.cell_bytes.specs.Subfields.{b12}
use Rattle.cell_bytes.specs.Record.{Field, only_fields, base_of, digits, entries, entry, field, field_area, of_data, record_of}
use Rattle.cell_bytes.specs.Vector.{record_identifier, vector_fields}
use Rattle.cell_bytes.specs.Feature.{feature_fields}
use Rattle.cell_bytes.specs.Written.{feature_record, long_fault, record_fault, vector_record}
use Rattle.cell_bytes.proofs.Framed.{length-record_bytes, length-record_of}

pub length-of_record : (fields : List Field)
    → length (record_of of_data fields) ≡ base_of (entries 0 fields) + length (field_area fields)
unfolding record_of
length-of_record fields = length-record_bytes (entries 0 fields) (field_area fields)

-- a record is as long as another whose first field is as long
same_length : (tag x y : List ℕ) (rest : List Field) → length x ≡ length y
    → length (record_of of_data ((tag, x) ∷ rest)) ≡ length (record_of of_data ((tag, y) ∷ rest))
unfolding entries entry field_area
same_length tag x y rest e =
    length-of_record ((tag, x) ∷ rest)
    ∙ ap (λ (n : ℕ). base_of ((tag ++ digits 5 n ++ digits 5 0) ++ entries (0 + n) rest) + length (x ++ field_area rest)) e
    ∙ ap (λ (n : ℕ). base_of (entries 0 ((tag, y) ∷ rest)) + n)
    (length-append x (field_area rest) ∙ ap (λ (n : ℕ). n + length (field_area rest)) e ∙ sym (length-append y (field_area rest)))
    ∙ sym (length-of_record ((tag, y) ∷ rest))

length-number : (m n : ℕ) → length (b12 m ++ FIELD_TERMINATOR ∷ []) ≡ length (b12 n ++ FIELD_TERMINATOR ∷ [])
unfolding b12
length-number m n = refl

pub vector_length : (name : Name) (vector : Vector) (m n : ℕ)
    → length (vector_record name vector m) ≡ length (vector_record name vector n)
unfolding vector_record vector_fields record_identifier field
vector_length name vector m n =
    same_length _ (b12 m ++ FIELD_TERMINATOR ∷ []) (b12 n ++ FIELD_TERMINATOR ∷ []) _ (length-number m n)

pub feature_length : (name : Name) (feature : Feature) (m n : ℕ)
    → length (feature_record name feature m) ≡ length (feature_record name feature n)
unfolding feature_record feature_fields record_identifier field
feature_length name feature m n =
    same_length _ (b12 m ++ FIELD_TERMINATOR ∷ []) (b12 n ++ FIELD_TERMINATOR ∷ []) _ (length-number m n)

made_length : (made : Fields) (fields : List Field) (bytes : ℕ) → bytes ≡ base_of made.directory + length made.area
    → made ≡ only_fields fields → bytes ≡ length (record_of of_data fields)
made_length made fields bytes counted is =
    counted ∙ ap (λ (d : Fields). base_of d.directory + length d.area) is ∙ length-record_of fields

-- what is wrong with the length of a vector's record, whatever its number
pub vector_made : (name : Name) (vector : Vector) (number : ℕ) (made : Fields) (bytes : ℕ)
    → bytes ≡ base_of made.directory + length made.area → made ≡ only_fields (vector_fields number name vector)
    → long_fault name bytes ≡ record_fault name (vector_record name vector)
unfolding record_fault vector_record
vector_made name vector number made bytes counted is =
    ap (long_fault name) (made_length made (vector_fields number name vector) bytes counted is ∙ vector_length name vector number 0)

pub feature_made : (name : Name) (feature : Feature) (number : ℕ) (made : Fields) (bytes : ℕ)
    → bytes ≡ base_of made.directory + length made.area → made ≡ only_fields (feature_fields number name feature)
    → long_fault name bytes ≡ record_fault name (feature_record name feature)
unfolding record_fault feature_record
feature_made name feature number made bytes counted is =
    ap (long_fault name) (made_length made (feature_fields number name feature) bytes counted is ∙ feature_length name feature number 0)

-- the first of faults, one more of which was looked at
pub first_more : (first one : Option WriteFault) (more : List (Option WriteFault))
    → option_or first (first_of (one ∷ more)) ≡ option_or (option_or first one) (first_of more)
first_more None None more = refl
first_more None (Some fault) more = refl
first_more (Some fault) one more = refl
