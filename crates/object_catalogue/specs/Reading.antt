-- What the bytes of a catalogue are, or their first fault.
use Rattle.std.specs.Prelude.{ℕ, ◌+◌, nat_lt, Bool, not, ◌&&◌, if◌then◌else◌, List, [], ◌∷◌, length}
use Rattle.std.specs.Prelude.{Option, Result, is_none}
use Rattle.std.specs.Option.{option_to_list}
use Rattle.std.specs.List.{flat_map, list_any}
use Rattle.std.specs.Str.Lines.{lines}
use Rattle.chart_model.specs.Answers.{when, first_of, unless}
use Rattle.text_lines.specs.Lines.{is_silent}
use Rattle.text_lines.specs.Reading.{first_fault}
use Rattle.object_catalogue.specs.Entry.{entry_of}
use Rattle.object_catalogue.specs.Codes.{CatalogueValue, catalogue_of, stands_in, with_entry}
use Rattle.object_catalogue.specs.declared.entry.Entry.{Entry}
use Rattle.object_catalogue.specs.declared.fault.CatalogueFault.{CatalogueFault}
use Rattle.object_catalogue.specs.declared.fault.CatalogueFault.TheVariants.{BadLine, Twice}

-- what a line says: its entry, where it is one
abbrev pub entries_on : List ℕ → List Entry
entries_on line = if is_silent line then [] else option_to_list (entry_of line)

-- the catalogue of lines
abbrev pub catalogue_on : List (List ℕ) → CatalogueValue
catalogue_on all = catalogue_of (flat_map entries_on all)

-- the line says something and is no entry
abbrev pub is_bad : List ℕ → Bool
is_bad line = not (is_silent line) && is_none (entry_of line)

-- What is wrong with the line of a number behind a catalogue: it stands behind the 10,000th; or it is bad; or its code
-- or its acronym stands in the catalogue among those of its kind.
abbrev pub line_fault : CatalogueValue → ℕ → List ℕ → Option CatalogueFault
line_fault catalogue number line =
    first_of (
    when (nat_lt 10000 number) (BadLine number)
    ∷ when (is_bad line) (BadLine number)
    ∷ when (list_any (stands_in catalogue) (entries_on line)) (Twice number)
    ∷ []
    )

-- what is wrong with a line behind others
abbrev pub fault_at : List (List ℕ) → List ℕ → Option CatalogueFault
fault_at before line = line_fault (catalogue_on before) (length before + 1) line

-- the catalogue that the bytes are, or the first fault among their lines
abbrev pub catalogue_in : List ℕ → Result CatalogueValue CatalogueFault
catalogue_in bytes = unless (first_fault fault_at [] (lines bytes)) (catalogue_on (lines bytes))

-- ---- line by line

abbrev pub with_entries : CatalogueValue → List Entry → CatalogueValue
with_entries catalogue [] = catalogue
with_entries catalogue (entry ∷ entries) = with_entries (with_entry catalogue entry) entries

-- the catalogue with what the line of this number says, or the line's fault
unfoldable pub line_in : CatalogueValue → ℕ → List ℕ → Result CatalogueValue CatalogueFault
line_in catalogue number line = unless (line_fault catalogue number line) (with_entries catalogue (entries_on line))
