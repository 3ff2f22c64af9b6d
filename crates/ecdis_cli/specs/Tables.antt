-- The object catalogue and the lookup table that lie on a shelf.
use Rattle.std.specs.Prelude.{ℕ, List, Option, Some, None, unwrap_or, Result, Ok, Err}
use Rattle.chart_model.specs.Answers.{◌>>=◌, or_fault_as}
use Rattle.chart_ports.specs.Fetched.{fetched_of}
use Rattle.chart_ports.specs.declared.shelf.Fetched.{Fetched}
use Rattle.chart_ports.specs.declared.shelf.Fetched.TheVariants as of_shelf
use Rattle.command_words.specs.Reading.{WordsValue}
use Rattle.object_catalogue.specs.Codes.{CatalogueValue}
use Rattle.object_catalogue.specs.Reading.{catalogue_in}
use Rattle.object_catalogue.specs.declared.fault.CatalogueFault.{CatalogueFault}
use Rattle.object_catalogue.specs.declared.fault.CatalogueFault.TheVariants as of_catalogue
use Rattle.lookup_table.specs.Lines as of_lookup
use Rattle.lookup_table.specs.declared.fault.TableFault.{TableFault}
use Rattle.lookup_table.specs.declared.fault.TableFault.TheVariants as of_table
use Rattle.lookup_table.specs.declared.line.TableLine.{TableLine}
use Rattle.session_core.specs.Fetch.{Files}
use Rattle.ecdis_cli.specs.declared.run.tables_fault.TablesFault.{TablesFault}
use Rattle.ecdis_cli.specs.declared.run.tables_fault.TablesFault.TheVariants.{Absent, Long, BadLine, Twice}
use Rattle.ecdis_cli.specs.declared.run.tables_fault.TablesFault.TheVariants.{UnknownName, UnknownProcedure}

-- the most bytes of either file
abbrev pub TABLES_LIMIT : ℕ
TABLES_LIMIT = 1048576

-- ---- one file

-- what there is to read, or why there is nothing
abbrev pub bytes_in : Fetched → Result (List ℕ) TablesFault
bytes_in (of_shelf.Bytes bytes) = Ok bytes
bytes_in of_shelf.Absent = Err Absent
bytes_in of_shelf.Long = Err Long

-- what is wrong with a catalogue; want of memory is no fault of it
abbrev pub fault_of_catalogue : CatalogueFault → Option TablesFault
fault_of_catalogue (of_catalogue.BadLine line) = Some (BadLine line)
fault_of_catalogue (of_catalogue.Twice line) = Some (Twice line)
fault_of_catalogue of_catalogue.NoMemory = None

-- the same of a table
abbrev pub fault_of_table : TableFault → Option TablesFault
fault_of_table (of_table.BadLine line) = Some (BadLine line)
fault_of_table (of_table.UnknownName line) = Some (UnknownName line)
fault_of_table (of_table.UnknownProcedure line) = Some (UnknownProcedure line)
fault_of_table of_table.NoMemory = None

-- The value, or its fault as one of the two files. No definition answers want of memory, so what stands in its place
-- is never seen.
abbrev pub or_faulty : {A E : Type 0} → (E → Option TablesFault) → Result A E → Result A TablesFault
or_faulty told result = or_fault_as (λ fault. unwrap_or (told fault) Absent) result

-- the catalogue that a file is, or what is wrong with it
unfoldable pub catalogue_by : Fetched → Result CatalogueValue TablesFault
catalogue_by fetched = bytes_in fetched >>= λ bytes. or_faulty fault_of_catalogue (catalogue_in bytes)

-- the lines of the table that a file is, with the codes of a catalogue, or what is wrong with it
unfoldable pub lines_by : CatalogueValue → Fetched → Result (List TableLine) TablesFault
lines_by catalogue fetched =
    bytes_in fetched >>= λ bytes. or_faulty fault_of_table (of_lookup.table_in catalogue bytes)

-- ---- both files

-- why a run ends before its script: in which file, 0 for the catalogue and 1 for the table, and what is wrong with it
pub record TablesEnd : Type 0 where
  pub which : ℕ
  pub fault : TablesFault

-- the value, or its fault as one of the file of this number
abbrev pub in_file : {A : Type 0} → ℕ → Result A TablesFault → Result A TablesEnd
in_file which result = or_fault_as (λ fault. record { which = which; fault = fault }) result

-- the lines of the table of these two files; a fault of the catalogue comes first
unfoldable pub table_by : Fetched → Fetched → Result (List TableLine) TablesEnd
table_by catalogue table = in_file 0 (catalogue_by catalogue) >>= λ value. in_file 1 (lines_by value table)

-- the same of the files that the words name
abbrev pub table_in : Files → WordsValue → Result (List TableLine) TablesEnd
table_in files words =
    table_by (fetched_of TABLES_LIMIT (files words.catalogue)) (fetched_of TABLES_LIMIT (files words.table))
