-- What the bytes of a file of colours are, or their first fault.
use Rattle.std.specs.Prelude.{ℕ, ◌+◌, nat_lt, Bool, not, ◌&&◌, if◌then◌else◌, List, [], ◌∷◌, ◌++◌, length}
use Rattle.std.specs.Prelude.{Option, Result, is_none}
use Rattle.std.specs.Option.{option_to_list}
use Rattle.std.specs.List.{flat_map, list_any}
use Rattle.std.specs.Str.Lines.{lines}
use Rattle.chart_model.specs.Answers.{when, first_of, unless}
use Rattle.text_lines.specs.Lines.{is_silent}
use Rattle.text_lines.specs.Reading.{first_fault}
use Rattle.colour_table.specs.Swatch.{swatch_of}
use Rattle.colour_table.specs.Under.{is_under}
use Rattle.colour_table.specs.declared.swatch.Swatch.{Swatch}
use Rattle.colour_table.specs.declared.fault.ColoursFault.{ColoursFault}
use Rattle.colour_table.specs.declared.fault.ColoursFault.TheVariants.{BadLine, Twice}

-- what a line says: a colour under its token, where it is one
abbrev pub swatches_on : List ℕ → List Swatch
swatches_on line = if is_silent line then [] else option_to_list (swatch_of line)

-- the colours of lines
abbrev pub colours_on : List (List ℕ) → List Swatch
colours_on all = flat_map swatches_on all

-- the line says something and is no colour under a token
abbrev pub is_bad : List ℕ → Bool
is_bad line = not (is_silent line) && is_none (swatch_of line)

abbrev pub has_token : List Swatch → List ℕ → Bool
has_token colours token = list_any (is_under token) colours

-- whether the token of a colour stands among others
abbrev pub stands_in : List Swatch → Swatch → Bool
stands_in colours swatch = has_token colours swatch.token

-- What is wrong with the line of a number behind colours: it stands behind the 1,000th; or it is bad; or its token
-- stands among the colours.
abbrev pub line_fault : List Swatch → ℕ → List ℕ → Option ColoursFault
line_fault colours number line =
    first_of (
    when (nat_lt 1000 number) (BadLine number)
    ∷ when (is_bad line) (BadLine number)
    ∷ when (list_any (stands_in colours) (swatches_on line)) (Twice number)
    ∷ []
    )

-- what is wrong with a line behind others
abbrev pub fault_at : List (List ℕ) → List ℕ → Option ColoursFault
fault_at before line = line_fault (colours_on before) (length before + 1) line

-- the colours that the bytes are, or the first fault among their lines
abbrev pub colours_in : List ℕ → Result (List Swatch) ColoursFault
colours_in bytes = unless (first_fault fault_at [] (lines bytes)) (colours_on (lines bytes))

-- ---- line by line

-- the colours with what the line of this number says, or the line's fault
unfoldable pub line_in : List Swatch → ℕ → List ℕ → Result (List Swatch) ColoursFault
line_in colours number line = unless (line_fault colours number line) (colours ++ swatches_on line)
