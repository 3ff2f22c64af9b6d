-- What the words of the command line say.
use Rattle.std.specs.Prelude.{ℕ, ℤ, List, [], ◌∷◌, codes, Option, Some, None, string_bytes}
use Rattle.std.specs.Option.{option_and_then, option_map}
use Rattle.clap.specs.Words.{Kinds, Row, fault_of, first_of, matches_of}
use Rattle.chart_model.specs.declared.settings.Settings.{Settings}
use Rattle.chart_model.specs.declared.settings.Shades.{Shades}
use Rattle.command_words.specs.Command.{ecdis}
use Rattle.command_words.specs.Settings.{centimetres_of, defaults, is_set, value_or, scale_of, shades_of}
use Rattle.command_words.specs.declared.reading.Words.{Words}
use Rattle.date_display.specs.Days.{DateValue, date_of}
use Rattle.date_display.specs.Texts.{date_in}

-- the names of the two files as bytes, the settings, and the day, where one is named
pub record WordsValue : Type 0 where
  pub catalogue : List ℕ
  pub table : List ℕ
  pub settings : Settings
  pub day : Option DateValue

abbrev pub value_of : Words → WordsValue
value_of words = record {
  catalogue = string_bytes words.catalogue;
  table = string_bytes words.table;
  settings = words.settings;
  day = option_map date_of words.day;
}

infixl 10 ◌>>=◌
abbrev pub ◌>>=◌ : {A B : Type 0} → Option A → (A → Option B) → Option B
value >>= next = option_and_then next value

-- each setting in what `clap` found, by its name and its default
abbrev pub depth_in : ℤ → List ℕ → List Row → Option ℤ
depth_in default name found = value_or default centimetres_of (first_of name found)

abbrev pub shades_in : List Row → Option Shades
shades_in found = value_or defaults.shades shades_of (first_of (codes "shades") found)

abbrev pub scale_in : List Row → Option ℕ
scale_in found = value_or defaults.scale scale_of (first_of (codes "scale") found)

-- the day in what `clap` found, none where the option isn't there; a text that is no day says nothing
abbrev pub day_of : List ℕ → Option (Option DateValue)
day_of text = option_map (λ date. Some date) (date_in text)

abbrev pub day_in : List Row → Option (Option DateValue)
day_in found = value_or None day_of (first_of (codes "day") found)

-- the settings, where each value is in its range
unfoldable pub settings_in : List Row → Option Settings
settings_in found = do
  safety_contour ← depth_in defaults.safety_contour (codes "safety-contour") found
  safety_depth ← depth_in defaults.safety_depth (codes "safety-depth") found
  shallow ← depth_in defaults.shallow (codes "shallow") found
  deep ← depth_in defaults.deep (codes "deep") found
  shades ← shades_in found
  scale ← scale_in found
  Some (record {
    safety_contour = safety_contour;
    safety_depth = safety_depth;
    shallow = shallow;
    deep = deep;
    shades = shades;
    pattern = is_set (first_of (codes "pattern") found);
    scale = scale;
  })

-- the two names, the settings and the day
unfoldable pub words_in : List Row → Option WordsValue
words_in found = do
  catalogue ← first_of (codes "catalogue") found
  table ← first_of (codes "table") found
  settings ← settings_in found
  day ← day_in found
  Some (record { catalogue = catalogue; table = table; settings = settings; day = day })

-- what is found where nothing is wrong
abbrev pub where_none : Kinds → Option WordsValue → Option WordsValue
where_none [] found = found
where_none (kind ∷ more) found = None

-- what the words say, the program's name first, where the command takes them and each value is in its range
unfoldable pub words_of : List (List ℕ) → Option WordsValue
words_of words = where_none (fault_of ecdis words) (words_in (matches_of ecdis words))
