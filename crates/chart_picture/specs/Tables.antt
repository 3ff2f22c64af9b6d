-- The object catalogue, the lookup table and the colours that lie on a shelf.
use Rattle.std.specs.Prelude.{ℕ, List, Option, Some, None, unwrap_or, Result, Ok, Err}
use Rattle.chart_model.specs.Answers.{◌>>=◌, or_fault_as}
use Rattle.chart_ports.specs.Fetched.{fetched_of}
use Rattle.chart_ports.specs.declared.shelf.Fetched.{Fetched}
use Rattle.chart_ports.specs.declared.shelf.Fetched.TheVariants as of_shelf
use Rattle.object_catalogue.specs.Codes.{CatalogueValue}
use Rattle.object_catalogue.specs.Reading.{catalogue_in}
use Rattle.object_catalogue.specs.declared.fault.CatalogueFault.{CatalogueFault}
use Rattle.object_catalogue.specs.declared.fault.CatalogueFault.TheVariants as of_catalogue
use Rattle.lookup_table.specs.Lines as of_lookup
use Rattle.lookup_table.specs.declared.fault.TableFault as lookup
use Rattle.lookup_table.specs.declared.fault.TableFault.TheVariants as of_table
use Rattle.lookup_table.specs.declared.line.TableLine.{TableLine}
use Rattle.colour_table.specs.Reading as of_colours
use Rattle.colour_table.specs.declared.fault.ColoursFault.{ColoursFault}
use Rattle.colour_table.specs.declared.fault.ColoursFault.TheVariants as of_colour
use Rattle.colour_table.specs.declared.swatch.Swatch.{Swatch}
use Rattle.session_core.specs.Fetch.{Files}
use Rattle.picture_words.specs.Reading.{PictureValue}
use Rattle.chart_picture.specs.declared.run.fault.TableFault.{TableFault}
use Rattle.chart_picture.specs.declared.run.fault.TableFault.TheVariants.{Absent, Long, Line}
use Rattle.chart_picture.specs.declared.run.end.End.{End}
use Rattle.chart_picture.specs.declared.run.end.End.TheVariants.{Tables, NoMemory}

-- the most bytes of each file
abbrev pub TABLES_LIMIT : ℕ
TABLES_LIMIT = 1048576

-- what there is to read of the file of a number, or why there is nothing
abbrev pub bytes_in : ℕ → Fetched → Result (List ℕ) End
bytes_in which (of_shelf.Bytes bytes) = Ok bytes
bytes_in which of_shelf.Absent = Err (Tables which Absent)
bytes_in which of_shelf.Long = Err (Tables which Long)

-- ---- faults of lines

-- what is wrong with a catalogue; want of memory is no fault of it
abbrev pub fault_of_catalogue : CatalogueFault → Option TableFault
fault_of_catalogue (of_catalogue.BadLine line) = Some (Line line)
fault_of_catalogue (of_catalogue.Twice line) = Some (Line line)
fault_of_catalogue of_catalogue.NoMemory = None

-- the same of a table
abbrev pub fault_of_table : lookup.TableFault → Option TableFault
fault_of_table (of_table.BadLine line) = Some (Line line)
fault_of_table (of_table.UnknownName line) = Some (Line line)
fault_of_table (of_table.UnknownProcedure line) = Some (Line line)
fault_of_table of_table.NoMemory = None

-- the same of colours
abbrev pub fault_of_colours : ColoursFault → Option TableFault
fault_of_colours (of_colour.BadLine line) = Some (Line line)
fault_of_colours (of_colour.Twice line) = Some (Line line)
fault_of_colours of_colour.NoMemory = None

-- how the run ends at the file of a number
abbrev pub end_by : ℕ → Option TableFault → End
end_by which None = NoMemory
end_by which (Some fault) = Tables which fault

-- The value, or its fault as one of the file of a number. No definition answers want of memory, so what stands in its
-- place is never seen.
abbrev pub or_faulty : {A E : Type 0} → ℕ → (E → Option TableFault) → Result A E → Result A End
or_faulty which fault_of result = or_fault_as (λ fault. Tables which (unwrap_or (fault_of fault) Absent)) result

-- ---- one file

unfoldable pub catalogue_of : List ℕ → Result CatalogueValue End
catalogue_of bytes = or_faulty 0 fault_of_catalogue (catalogue_in bytes)

unfoldable pub lines_of : CatalogueValue → List ℕ → Result (List TableLine) End
lines_of catalogue bytes = or_faulty 1 fault_of_table (of_lookup.table_in catalogue bytes)

unfoldable pub colours_of : List ℕ → Result (List Swatch) End
colours_of bytes = or_faulty 2 fault_of_colours (of_colours.colours_in bytes)

abbrev pub catalogue_by : Fetched → Result CatalogueValue End
catalogue_by fetched = bytes_in 0 fetched >>= catalogue_of

abbrev pub lines_by : CatalogueValue → Fetched → Result (List TableLine) End
lines_by catalogue fetched = bytes_in 1 fetched >>= lines_of catalogue

abbrev pub colours_by : Fetched → Result (List Swatch) End
colours_by fetched = bytes_in 2 fetched >>= colours_of

-- ---- the files that words name

-- the lines of the table, with the codes of the catalogue; a fault of the catalogue comes first
abbrev pub table_in : Files → PictureValue → Result (List TableLine) End
table_in files words =
    catalogue_by (fetched_of TABLES_LIMIT (files words.catalogue))
    >>= λ catalogue. lines_by catalogue (fetched_of TABLES_LIMIT (files words.table))

abbrev pub colours_in : Files → PictureValue → Result (List Swatch) End
colours_in files words = colours_by (fetched_of TABLES_LIMIT (files words.colours))
