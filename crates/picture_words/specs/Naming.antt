-- Words that name the files, and further ones.
use Rattle.std.specs.Prelude.{ℕ, List, [], ◌∷◌, ◌++◌, codes, Option, Some, None, option_map}
use Rattle.chart_model.specs.declared.settings.Settings.{Settings}
use Rattle.command_words.specs.Settings.{defaults}
use Rattle.picture_words.specs.Reading.{PictureValue}
use Rattle.picture_words.specs.View.{ViewValue}

-- the program's name, the names of the three tables behind `=`, and further words
abbrev pub words_naming : List ℕ → List ℕ → List ℕ → List ℕ → List (List ℕ) → List (List ℕ)
words_naming program catalogue table colours more =
    program ∷ (codes "--catalogue=" ++ catalogue) ∷ (codes "--table=" ++ table) ∷ (codes "--colours=" ++ colours) ∷ more

-- these names and files, and else what stands where nothing is set
abbrev pub naming : List ℕ → List ℕ → List ℕ → List (List ℕ) → PictureValue
naming catalogue table colours files = record {
  catalogue = catalogue;
  table = table;
  colours = colours;
  settings = defaults;
  route = None;
  view = None;
  width = 1000;
  files = files;
}
