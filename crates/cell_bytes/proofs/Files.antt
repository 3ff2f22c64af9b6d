-- The bytes of a file that was written record by record, and its fault.
use Rattle.std.proofs.Common.{◌≡◌, ℕ, List, [], ◌∷◌, ◌++◌, Option, Some, None, refl, sym, ap, ◌∙◌, append_assoc}
use Rattle.std.specs.Option.{option_or}
use Rattle.chart_model.specs.Answers.{first_of, unless}
use Rattle.chart_model.specs.Cell.{CellValue}
use Rattle.cell_bytes.specs.declared.fault.WriteFault.{WriteFault}
use Rattle.cell_bytes.specs.Descriptive.{descriptive_record}
use Rattle.cell_bytes.specs.Record.{of_data, record_of}
use Rattle.cell_bytes.specs.DataSet.{general_fields, parameter_fields}
use Rattle.cell_bytes.specs.Written.{NumberedRecord, data_records, feature_faults, feature_records, file_of, length_fault}
use Rattle.cell_bytes.specs.Written.{next_number, number_behind, records_from, vector_faults, vector_records, write_fault, base_file_of}

pub records_from-append : (number : ℕ) (xs ys : List NumberedRecord)
    → records_from number (xs ++ ys) ≡ records_from number xs ++ records_from (number_behind number xs) ys
unfolding records_from number_behind
records_from-append number [] ys = refl
records_from-append number (x ∷ xs) ys =
    ap (λ (l : List ℕ). x number ++ l) (records_from-append (next_number number) xs ys)
    ∙ sym (append_assoc (x number) (records_from (next_number number) xs) (records_from (number_behind (next_number number) xs) ys))

-- the file as it is put together
pieces : (cell : CellValue) → file_of cell
    ≡ (descriptive_record ++ record_of of_data (general_fields 1 cell)
    ++ record_of of_data (parameter_fields 2 cell.header.scale))
    ++ records_from 3 (vector_records cell) ++ records_from (number_behind 3 (vector_records cell)) (feature_records cell)
unfolding file_of data_records records_from
pieces cell =
    let g = record_of of_data (general_fields 1 cell) in
    let p = record_of of_data (parameter_fields 2 cell.header.scale) in
    let v = records_from 3 (vector_records cell) in
    let f = records_from (number_behind 3 (vector_records cell)) (feature_records cell) in
    ap (λ (l : List ℕ). descriptive_record ++ (g ++ (p ++ l))) (records_from-append 3 (vector_records cell) (feature_records cell))
    ∙ sym (append_assoc descriptive_record g (p ++ (v ++ f)))
    ∙ sym (append_assoc (descriptive_record ++ g) p (v ++ f))
    ∙ sym (append_assoc (descriptive_record ++ g ++ p) v f)

-- the file that each step left
pub record Steps (cell : CellValue) (b0 b1 b2 b3 b4 : List ℕ) (n0 n1 n2 n3 : ℕ) : Type 0 where
  pub begun : b0 ≡ descriptive_record
  pub first : n0 ≡ 1
  pub general : b1 ≡ b0 ++ record_of of_data (general_fields n0 cell)
  pub second : n1 ≡ next_number n0
  pub parameters : b2 ≡ b1 ++ record_of of_data (parameter_fields n1 cell.header.scale)
  pub third : n2 ≡ next_number n1
  pub vectors : b3 ≡ b2 ++ records_from n2 (vector_records cell)
  pub last : n3 ≡ number_behind n2 (vector_records cell)
  pub features : b4 ≡ b3 ++ records_from n3 (feature_records cell)

bytes_of : (cell : CellValue) (b0 b1 b2 b3 b4 : List ℕ) (n0 n1 n2 n3 : ℕ) → Steps cell b0 b1 b2 b3 b4 n0 n1 n2 n3
    → b4 ≡ file_of cell
bytes_of cell b0 b1 b2 b3 b4 n0 n1 n2 n3 s =
    let e1 : n1 ≡ 2 = s.second ∙ ap next_number s.first in
    let e2 : n2 ≡ 3 = s.third ∙ ap next_number e1 in
    let e3 : n3 ≡ number_behind 3 (vector_records cell) = s.last ∙ ap (λ (n : ℕ). number_behind n (vector_records cell)) e2 in
    s.features
    ∙ ap (λ (n : ℕ). b3 ++ records_from n (feature_records cell)) e3
    ∙ ap (λ (l : List ℕ). l ++ records_from (number_behind 3 (vector_records cell)) (feature_records cell))
    (s.vectors ∙ ap (λ (n : ℕ). b2 ++ records_from n (vector_records cell)) e2
    ∙ ap (λ (l : List ℕ). l ++ records_from 3 (vector_records cell))
    (s.parameters ∙ ap (λ (n : ℕ). b1 ++ record_of of_data (parameter_fields n cell.header.scale)) e1
    ∙ ap (λ (l : List ℕ). l ++ record_of of_data (parameter_fields 2 cell.header.scale))
    (s.general ∙ ap (λ (n : ℕ). b0 ++ record_of of_data (general_fields n cell)) s.first
    ∙ ap (λ (l : List ℕ). l ++ record_of of_data (general_fields 1 cell)) s.begun)))
    ∙ sym (pieces cell)

first_of-append : (xs ys : List (Option WriteFault)) → first_of (xs ++ ys) ≡ option_or (first_of xs) (first_of ys)
first_of-append [] ys = refl
first_of-append (None ∷ xs) ys = first_of-append xs ys
first_of-append (Some fault ∷ xs) ys = refl

first_alone : (fault : Option WriteFault) → first_of (fault ∷ []) ≡ fault
first_alone None = refl
first_alone (Some fault) = refl

fault_is : (cell : CellValue) → write_fault cell
    ≡ option_or (option_or (first_of (feature_faults cell)) (first_of (vector_faults cell))) (length_fault (file_of cell))
unfolding write_fault
fault_is cell =
    first_of-append (feature_faults cell ++ vector_faults cell) (length_fault (file_of cell) ∷ [])
    ∙ ap (λ (o : Option WriteFault). option_or o (first_of (length_fault (file_of cell) ∷ []))) (first_of-append (feature_faults cell) (vector_faults cell))
    ∙ ap (option_or (option_or (first_of (feature_faults cell)) (first_of (vector_faults cell)))) (first_alone (length_fault (file_of cell)))

-- what is answered of the bytes and of the faults that were come to
pub written_by : (cell : CellValue) (b0 b1 b2 b3 b4 : List ℕ) (n0 n1 n2 n3 : ℕ) (of_vectors of_features fault : Option WriteFault)
    → Steps cell b0 b1 b2 b3 b4 n0 n1 n2 n3 → of_vectors ≡ first_of (vector_faults cell)
    → of_features ≡ first_of (feature_faults cell) → fault ≡ option_or of_features of_vectors
    → unless (option_or fault (length_fault b4)) b4 ≡ base_file_of cell
unfolding base_file_of
written_by cell b0 b1 b2 b3 b4 n0 n1 n2 n3 of_vectors of_features fault s v f first =
    let faults : fault ≡ option_or (first_of (feature_faults cell)) (first_of (vector_faults cell)) =
    first ∙ ap (λ (o : Option WriteFault). option_or o of_vectors) f ∙ ap (option_or (first_of (feature_faults cell))) v in
    ap (λ (o : Option WriteFault). unless (option_or o (length_fault b4)) b4) faults
    ∙ ap (λ (b : List ℕ). unless (option_or (option_or (first_of (feature_faults cell)) (first_of (vector_faults cell))) (length_fault b)) b)
    (bytes_of cell b0 b1 b2 b3 b4 n0 n1 n2 n3 s)
    ∙ ap (λ (o : Option WriteFault). unless o (file_of cell)) (sym (fault_is cell))
