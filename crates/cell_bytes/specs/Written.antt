-- A cell as the bytes of a base file, or why it has none.
use Rattle.std.specs.Prelude.{ℕ, ◌+◌, ◌%◌, nat_lt, List, [], ◌∷◌, ◌++◌, length, map, Option, Result}
use Rattle.std.specs.FinMap as finite
use Rattle.chart_model.specs.declared.name.Name.{Name}
use Rattle.chart_model.specs.declared.cell.Vector.{Vector}
use Rattle.chart_model.specs.declared.cell.Feature.{Feature}
use Rattle.chart_model.specs.Answers.{first_of, unless, when}
use Rattle.chart_model.specs.Cell.{CellValue}
use Rattle.cell_bytes.specs.Record.{of_data, record_of}
use Rattle.cell_bytes.specs.DataSet.{general_fields, parameter_fields}
use Rattle.cell_bytes.specs.Descriptive.{descriptive_record}
use Rattle.cell_bytes.specs.Vector.{vector_fields}
use Rattle.cell_bytes.specs.Feature.{feature_fields}
use Rattle.cell_bytes.specs.declared.fault.WriteFault.{WriteFault}
use Rattle.cell_bytes.specs.declared.fault.WriteFault.TheVariants.{RecordLong, CellLong}

-- ---- numbered records

-- the number of the next record: they are counted modulo 65,536
abbrev pub next_number : ℕ → ℕ
next_number number = (number + 1) % 65536

-- a record under a number
abbrev pub NumberedRecord : Type 0
NumberedRecord = ℕ → List ℕ

-- records one after the other, of which the first has the number
unfoldable pub records_from : ℕ → List NumberedRecord → List ℕ
records_from number [] = []
records_from number (record_under ∷ more) = record_under number ++ records_from (next_number number) more

-- the number behind those of records
unfoldable pub number_behind : ℕ → List NumberedRecord → ℕ
number_behind number [] = number
number_behind number (record_under ∷ more) = number_behind (next_number number) more

-- ---- the records of a cell

unfoldable pub vector_record : Name → Vector → NumberedRecord
vector_record name vector number = record_of of_data (vector_fields number name vector)

unfoldable pub feature_record : Name → Feature → NumberedRecord
feature_record name feature number = record_of of_data (feature_fields number name feature)

-- the records of the vectors and those of the features, in the order of their names
unfoldable pub vector_records : CellValue → List NumberedRecord
vector_records cell = map (λ entry. vector_record entry.0 entry.1) (finite.entries cell.vectors)

unfoldable pub feature_records : CellValue → List NumberedRecord
feature_records cell = map (λ entry. feature_record entry.0 entry.1) (finite.entries cell.features)

-- all data records: general information, parameters, vectors and features
unfoldable pub data_records : CellValue → List NumberedRecord
data_records cell =
    (λ number. record_of of_data (general_fields number cell))
    ∷ (λ number. record_of of_data (parameter_fields number cell.header.scale))
    ∷ (vector_records cell ++ feature_records cell)

-- the file
unfoldable pub file_of : CellValue → List ℕ
file_of cell = descriptive_record ++ records_from 1 (data_records cell)

-- ---- what is too long

-- a record has at most 99,999 bytes, for which five digits suffice
abbrev pub long_fault : Name → ℕ → Option WriteFault
long_fault name bytes = when (nat_lt 99999 bytes) (RecordLong name bytes)

-- the fault of a record, which has as many bytes under each number
unfoldable pub record_fault : Name → NumberedRecord → Option WriteFault
record_fault name record_under = long_fault name (length (record_under 0))

unfoldable pub vector_faults : CellValue → List (Option WriteFault)
vector_faults cell =
    map (λ entry. record_fault entry.0 (vector_record entry.0 entry.1)) (finite.entries cell.vectors)

unfoldable pub feature_faults : CellValue → List (Option WriteFault)
feature_faults cell =
    map (λ entry. record_fault entry.0 (feature_record entry.0 entry.1)) (finite.entries cell.features)

-- a file has at most 8,388,608 bytes
abbrev pub length_fault : List ℕ → Option WriteFault
length_fault file = when (nat_lt 8388608 (length file)) (CellLong (length file))

-- the first fault: of the least name with a record that is too long, where features come before vectors; or else of
-- the file
unfoldable pub write_fault : CellValue → Option WriteFault
write_fault cell = first_of (feature_faults cell ++ vector_faults cell ++ length_fault (file_of cell) ∷ [])

-- the file of a cell, or the first fault
unfoldable pub base_file_of : CellValue → Result (List ℕ) WriteFault
base_file_of cell = unless (write_fault cell) (file_of cell)
