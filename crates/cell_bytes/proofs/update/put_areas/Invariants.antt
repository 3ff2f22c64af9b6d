use Rattle.std.proofs.Common.{◌≡◌, ◌++◌, map}
use Rattle.cell_bytes.specs.Generator.{modification, modified_areas}
use Rattle.cell_bytes.specs.Written.{number_behind, records_from}
use Rattle.cell_bytes.proofs.update.put_areas.Given as goal

abbrev pub invariant-loop-before : goal.invariant-loop-before
invariant-loop-before l =
    let areas = map (modification l.update) (modified_areas l.update l.before) in
    record {
      bytes : l.file.bytes ≡ l.initial.file.bytes ++ records_from l.initial.file.number areas;
      number : l.file.number ≡ number_behind l.initial.file.number areas;
    }
