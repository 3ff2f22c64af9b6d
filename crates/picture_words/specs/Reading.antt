-- What the words of the command line say.
use Rattle.std.specs.Prelude.{◌≡◌, ℕ, Bool, true, not, is_none, List, [], ◌∷◌, map, codes, string_bytes}
use Rattle.std.specs.Prelude.{Option, Some, None, option_map, unwrap_or}
use Rattle.std.specs.List.{list_any}
use Rattle.clap.specs.Words.{Kinds, Row, all_of, fault_of, first_of, matches_of}
use Rattle.chart_model.specs.declared.settings.Settings.{Settings}
use Rattle.command_words.specs.Numbers.{number_from_to}
use Rattle.command_words.specs.Reading.{◌>>=◌, settings_in}
use Rattle.command_words.specs.Settings.{value_or}
use Rattle.picture_words.specs.Command.{chart_picture, is_request}
use Rattle.picture_words.specs.Marked.{marked_words}
use Rattle.picture_words.specs.View.{ViewValue, value_of_view, view_of}
use Rattle.picture_words.specs.declared.end.WordsEnd.{WordsEnd}
use Rattle.picture_words.specs.declared.end.WordsEnd.TheVariants.{Asked, Refused, NoMemory}
use Rattle.picture_words.specs.declared.reading.PictureWords.{PictureWords}

-- the names of files as bytes, what the mariner sets, and what the picture shows
pub record PictureValue : Type 0 where
  pub catalogue : List ℕ
  pub table : List ℕ
  pub colours : List ℕ
  pub settings : Settings
  pub route : Option (List ℕ)
  pub view : Option ViewValue
  pub width : ℕ
  pub files : List (List ℕ)

abbrev pub value_of : PictureWords → PictureValue
value_of words = record {
  catalogue = string_bytes words.catalogue;
  table = string_bytes words.table;
  colours = string_bytes words.colours;
  settings = words.settings;
  route = option_map string_bytes words.route;
  view = option_map value_of_view words.view;
  width = words.width;
  files = map string_bytes words.files.items;
}

-- how many units wide a picture is, 1000 where nothing is said
abbrev pub width_of : List ℕ → Option ℕ
width_of text = number_from_to 1 65535 text

abbrev pub width_in : List Row → Option ℕ
width_in found = value_or 1000 width_of (first_of (codes "width") found)

-- the view, where one is named
abbrev pub view_by : ℕ → Option (List (List ℕ)) → Option (Option ViewValue)
view_by width None = Some None
view_by width (Some borders) = option_map (λ view. Some view) (view_of width borders)

abbrev pub view_in : ℕ → List Row → Option (Option ViewValue)
view_in width found = view_by width (all_of (codes "view") found)

-- the cell files in their order
abbrev pub files_in : List Row → List (List ℕ)
files_in found = unwrap_or (all_of (codes "file") found) []

-- all that is named, where each value is in its range
unfoldable pub words_in : List Row → Option PictureValue
words_in found = do
  settings ← settings_in found
  width ← width_in found
  view ← view_in width found
  catalogue ← first_of (codes "catalogue") found
  table ← first_of (codes "table") found
  colours ← first_of (codes "colours") found
  Some (record {
    catalogue = catalogue;
    table = table;
    colours = colours;
    settings = settings;
    route = first_of (codes "route") found;
    view = view;
    width = width;
    files = files_in found;
  })

-- what is found where nothing is wrong
abbrev pub where_none : Kinds → Option PictureValue → Option PictureValue
where_none [] found = found
where_none (kind ∷ more) found = None

-- what may be wrong with the words, as `clap` reads a simple command
abbrev pub kinds_of : List (List ℕ) → Kinds
kinds_of words = fault_of chart_picture (marked_words words)

-- what is said in them, whatever is wrong
abbrev pub found_in : List (List ℕ) → Option PictureValue
found_in words = words_in (matches_of chart_picture (marked_words words))

-- what the words say, the program's name first, where the command takes them and each value is in its range
unfoldable pub words_of : List (List ℕ) → Option PictureValue
words_of words = where_none (kinds_of words) (found_in words)

-- the words ask for the help or the version
unfoldable pub ask : List (List ℕ) → Bool
ask words = list_any is_request (kinds_of words)

-- the command doesn't take them, for another cause, or it does and a value is out of its range
abbrev pub have_fault : Kinds → Option PictureValue → Bool
have_fault [] found = is_none found
have_fault (kind ∷ more) found = list_any (λ each. not (is_request each)) (kind ∷ more)

unfoldable pub are_refused : List (List ℕ) → Bool
are_refused words = have_fault (kinds_of words) (found_in words)

-- ---- answers

-- An end that says nothing: where the words are refused they say nothing, want of memory is free, and who has matches
-- didn't ask for a text.
abbrev pub IsSilent : WordsEnd → Option PictureValue → Type 0
IsSilent (Asked text) said = ⊥
IsSilent Refused said = said ≡ None
IsSilent NoMemory said = Unit {0}

-- how words end that say nothing, or are not read
abbrev pub IsEndOf : List (List ℕ) → WordsEnd → Type 0
IsEndOf words (Asked text) = (ask words ≡ true) × (words_of words ≡ None)
IsEndOf words Refused = (are_refused words ≡ true) × (words_of words ≡ None)
IsEndOf words NoMemory = Unit {0}
