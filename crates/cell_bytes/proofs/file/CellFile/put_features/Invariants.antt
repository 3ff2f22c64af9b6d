use Rattle.std.proofs.Common.{◌≡◌, ◌++◌, map}
use Rattle.std.specs.Option.{option_or}
use Rattle.std.specs.List.{AllByRecursion}
use Rattle.std.specs.FinMap as finite
use Rattle.chart_model.specs.Answers.{first_of}
use Rattle.chart_model.specs.Cell.{IsFeature}
use Rattle.cell_bytes.specs.Written.{feature_faults, feature_record, feature_records, number_behind, records_from, record_fault}
use Rattle.cell_bytes.specs.RecordsRead.{IsFeatureEntryInRange}
use Rattle.cell_bytes.proofs.file.CellFile.put_features.Given as goal

abbrev pub invariant-loop-name : goal.invariant-loop-name
invariant-loop-name l =
    let rest = map (λ entry. feature_record entry.0 entry.1) l.name-iterator in
    record {
      bytes : l.self.bytes ++ records_from l.self.number rest
          ≡ l.initial.self.bytes ++ records_from l.initial.self.number (feature_records l.cell);
      number : number_behind l.self.number rest ≡ number_behind l.initial.self.number (feature_records l.cell);
      fault : option_or l.first (first_of (map (λ entry. record_fault entry.0 (feature_record entry.0 entry.1)) l.name-iterator))
          ≡ first_of (feature_faults l.cell);
      in_range : AllByRecursion (λ entry. IsFeature entry.0 entry.1 → IsFeatureEntryInRange entry) l.name-iterator
          → AllByRecursion (λ entry. IsFeature entry.0 entry.1 → IsFeatureEntryInRange entry) (finite.entries l.cell.features);
    }
