-- What the lines `make` and `reissue` load: files that are written here.
use Rattle.std.specs.Prelude.{ℕ, zero, suc, ◌+◌, List, length, Option, Some, None, unwrap_or, Result, Ok}
use Rattle.chart_model.specs.Answers.{◌>>=◌, or_fault, or_fault_as}
use Rattle.chart_model.specs.Cell.{CellValue}
use Rattle.cell_bytes.specs.Generator.{modified_areas, made_cell, made_update}
use Rattle.cell_bytes.specs.Written.{data_records, base_file_of}
use Rattle.cell_bytes.specs.declared.fault.WriteFault.{WriteFault}
use Rattle.cell_bytes.specs.declared.fault.WriteFault.TheVariants as of_write
use Rattle.chart_store.specs.Loaded.{HoldingsByKey}
use Rattle.chart_store.specs.declared.refusal.Refusal.TheVariants.{NoCell}
use Rattle.session_core.specs.declared.fault.EventFault.{EventFault}
use Rattle.session_core.specs.declared.fault.EventFault.TheVariants.{Refused, NoMemory}
use Rattle.session_core.specs.declared.refusal.LineRefusal.{LineRefusal}
use Rattle.session_core.specs.declared.refusal.LineRefusal.TheVariants.{RecordLong, CellLong, Store}
use Rattle.session_core.specs.declared.changes.written.MadeFile.{MadeFile}
use Rattle.session_core.specs.Held.{chart_of}

-- ---- faults

-- why a cell is not written; want of memory is no fault of it
abbrev pub refusal_of_write : WriteFault → Option LineRefusal
refusal_of_write (of_write.RecordLong name bytes) = Some (RecordLong name bytes)
refusal_of_write (of_write.CellLong bytes) = Some (CellLong bytes)
refusal_of_write of_write.NoMemory = None

-- the same as a fault of an event
abbrev pub fault_of_write : WriteFault → EventFault
fault_of_write (of_write.RecordLong name bytes) = Refused (RecordLong name bytes)
fault_of_write (of_write.CellLong bytes) = Refused (CellLong bytes)
fault_of_write of_write.NoMemory = NoMemory

-- The value, or what its fault is refused as. No definition answers want of memory, so what stands in its place is
-- never seen.
abbrev pub or_refused : {A : Type 0} → Result A WriteFault → Result A LineRefusal
or_refused result = or_fault_as (λ fault. unwrap_or (refusal_of_write fault) (CellLong 0)) result

-- ---- the line `make`

-- a file with so many data records
abbrev pub file_with : ℕ → List ℕ → MadeFile
file_with records bytes = record { bytes = bytes; records = records }

-- the base file of a cell
abbrev pub base_of : CellValue → Result MadeFile LineRefusal
base_of cell = or_refused (base_file_of cell) >>= λ bytes. Ok (file_with (length (data_records cell)) bytes)

-- an update: a record of general information, and one for each area that it modifies
abbrev pub update_of : ℕ → ℕ → MadeFile
update_of areas update = file_with (1 + length (modified_areas update areas)) (made_update areas update)

-- the base file of the cell for trials with so many areas where the number of the update is 0, or else that update
unfoldable pub made_file : ℕ → ℕ → Result MadeFile LineRefusal
made_file areas zero = base_of (made_cell areas)
made_file areas (suc before) = Ok (update_of areas (suc before))

-- ---- the line `reissue`

-- the base file of the chart of a cell, where the cell is held and not cancelled
unfoldable pub reissue_file : HoldingsByKey → List ℕ → Result (List ℕ) LineRefusal
reissue_file cells key = do
  chart ← or_fault (Store (NoCell key)) (chart_of cells key)
  or_refused (base_file_of chart)
