-- The command, as `clap` reads it.
use Rattle.std.specs.Prelude.{◌≡◌, ◌≢◌, ℕ, Bool, true, false, List, [], ◌∷◌, Some, codes, fold}
use Rattle.clap.specs.Lexer.{usize_max}
use Rattle.clap.specs.Words.{App, Rule, kind_of, new_app, new_rule, with_rule}
use Rattle.clap.specs.declared.builder.action.ArgAction.TheVariants.{SetTrue}
use Rattle.clap.specs.declared.error.Error.{Error}
use Rattle.clap.specs.declared.error.kind.ErrorKind.{ErrorKind}
use Rattle.clap.specs.declared.error.kind.ErrorKind.TheVariants.{OutOfMemory, DisplayHelp, DisplayVersion}
use Rattle.picture_words.specs.declared.end.WordsEnd.{WordsEnd}
use Rattle.picture_words.specs.declared.end.WordsEnd.TheVariants.{Asked, Refused, NoMemory}

-- `--name VALUE`, which may be left out
abbrev pub optional : List ℕ → Rule
optional name = record (new_rule name) { long = Some name; value_names = 1 }

-- the same, which has to be there
abbrev pub required_option : List ℕ → Rule
required_option name = record (optional name) { required = true }

-- `--name`
abbrev pub flag : List ℕ → Rule
flag name = record (new_rule name) { long = Some name; action = Some SetTrue }

-- the files by which cells are drawn
abbrev pub tables : List Rule
tables =
    required_option (codes "catalogue") ∷ required_option (codes "table") ∷ required_option (codes "colours") ∷ []

-- what the mariner sets
abbrev pub depths : List Rule
depths = optional (codes "safety-contour") ∷ optional (codes "safety-depth")
    ∷ optional (codes "shallow") ∷ optional (codes "deep") ∷ []

abbrev pub looks : List Rule
looks = optional (codes "shades") ∷ flag (codes "pattern") ∷ optional (codes "scale") ∷ []

-- `--view X0 Y0 X1 Y1`
abbrev pub view : Rule
view = record (new_rule (codes "view")) {
  long = Some (codes "view");
  value_names = 4;
  range = Some (record { start_inclusive = 4; end_inclusive = 4 });
}

-- what the picture shows
abbrev pub shown : List Rule
shown = optional (codes "route") ∷ view ∷ optional (codes "width") ∷ []

-- `FILE ..`, one at least
abbrev pub cell_files : List Rule
cell_files = record (new_rule (codes "file")) {
  value_names = 1;
  range = Some (record { start_inclusive = 1; end_inclusive = usize_max });
  required = true;
} ∷ []

-- a command with these further arguments
abbrev pub with_rules : App → List Rule → App
with_rules app rules = fold with_rule app rules

-- the command that answers `--version`, without arguments
abbrev pub versioned : App
versioned = record (new_app (codes "chart_picture")) {
  top = record (new_app (codes "chart_picture")).top { has_version = true };
}

-- the command
abbrev pub chart_picture : App
chart_picture =
    with_rules (with_rules (with_rules (with_rules (with_rules versioned tables) depths) looks) shown) cell_files

-- ---- why there are no matches

-- a text is asked for
abbrev pub is_request : ErrorKind → Bool
is_request DisplayHelp = true
is_request DisplayVersion = true
is_request other = false

-- Who asks for a text is answered with one; every other error but want of memory is a refusal. There may be no memory
-- for the text either.
abbrev pub IsAnsweredBy : WordsEnd → Error → Type 0
IsAnsweredBy (Asked text) error = is_request (kind_of error) ≡ true
IsAnsweredBy Refused error = (kind_of error ≢ OutOfMemory) × (is_request (kind_of error) ≡ false)
IsAnsweredBy NoMemory error = Unit {0}
