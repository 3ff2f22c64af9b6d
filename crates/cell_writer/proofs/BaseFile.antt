-- A file that is written of a closed chart is a base file of it.
use Rattle.std.proofs.Common.{◌≡◌, ℕ, List, None, Result, Ok, Err, IfOk, refl}
use Rattle.chart_model.specs.Cell.{CellValue, IsCell}
use Rattle.chart_closure.specs.Closed.{closure_fault, IsClosed}
use Rattle.update_sequence.specs.Reading.{data_set_in}
use Rattle.cell_bytes.specs.declared.fault.WriteFault.{WriteFault}
use Rattle.cell_bytes.specs.Answers.{GivesWritten}
use Rattle.cell_bytes.specs.RecordsRead.{IsCellInRange}
use Rattle.cell_bytes.specs.Written.{base_file_of}
use Rattle.cell_writer.specs.ReadBack.{data_set_of, IsBaseFileOf}
use Rattle.cell_writer.proofs.Built.{built-back}

module _ (faultless : (cell : CellValue) → IsCell cell → IsClosed cell → closure_fault cell ≡ None) where
  -- a file that is read as the data set of a cell
  pub reads-back : (cell : CellValue) (file : List ℕ) → IsCell cell → IsClosed cell → data_set_in file ≡ Ok (data_set_of cell) → IsBaseFileOf cell file
  reads-back cell file is closed read = record {
    dataset = data_set_of cell;
    reads = read;
    base = refl;
    header = refl;
    builds = built-back faultless cell is closed;
  }

  -- what is answered as the file of a cell
  pub written-back : ((cell : CellValue) (file : List ℕ) → IsCell cell → IsCellInRange cell → base_file_of cell ≡ Ok file → data_set_in file ≡ Ok (data_set_of cell)) →
      (cell : CellValue) (answer : Result (List ℕ) WriteFault) → IsCell cell → IfOk answer (λ _. IsCellInRange cell) → GivesWritten answer (base_file_of cell) → IsClosed cell →
      IfOk answer (λ file. IsBaseFileOf cell file)
  written-back read cell (Ok file) is fits gives closed = reads-back cell file is closed (read cell file is fits gives)
  written-back read cell (Err fault) is fits gives closed = tt
