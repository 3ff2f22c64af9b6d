use Rattle.std.proofs.Common.{◌≡◌, ◌++◌, map}
use Rattle.std.specs.Option.{option_or}
use Rattle.std.specs.List.{AllByRecursion}
use Rattle.std.specs.FinMap as finite
use Rattle.chart_model.specs.Answers.{first_of}
use Rattle.chart_model.specs.Cell.{IsVector}
use Rattle.cell_bytes.specs.Written.{vector_faults, vector_record, vector_records, number_behind, records_from, record_fault}
use Rattle.cell_bytes.specs.RecordsRead.{IsVectorInRange}
use Rattle.cell_bytes.proofs.file.CellFile.put_vectors.Given as goal

abbrev pub invariant-loop-name : goal.invariant-loop-name
invariant-loop-name l =
    let rest = map (λ entry. vector_record entry.0 entry.1) l.name-iterator in
    record {
      bytes : l.self.bytes ++ records_from l.self.number rest
          ≡ l.initial.self.bytes ++ records_from l.initial.self.number (vector_records l.cell);
      number : number_behind l.self.number rest ≡ number_behind l.initial.self.number (vector_records l.cell);
      fault : option_or l.first (first_of (map (λ entry. record_fault entry.0 (vector_record entry.0 entry.1)) l.name-iterator))
          ≡ first_of (vector_faults l.cell);
      in_range : AllByRecursion (λ entry. IsVector entry.0 entry.1 → IsVectorInRange entry) l.name-iterator
          → AllByRecursion (λ entry. IsVector entry.0 entry.1 → IsVectorInRange entry) (finite.entries l.cell.vectors);
    }
