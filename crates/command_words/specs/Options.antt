-- Words that name the two files, and further ones.
use Rattle.std.specs.Prelude.{◌≡◌, ℕ, List, [], ◌∷◌, ◌++◌, codes, Option, Some, None, option_map}
use Rattle.chart_model.specs.declared.settings.Settings.{Settings}
use Rattle.command_words.specs.Settings.{defaults}
use Rattle.command_words.specs.Reading.{WordsValue, words_of}
use Rattle.date_display.specs.Days.{DateValue}

-- the program's name, the names of the two files behind `=`, and further words
abbrev pub words_naming : List ℕ → List ℕ → List ℕ → List (List ℕ) → List (List ℕ)
words_naming program catalogue table more =
    program ∷ (codes "--catalogue=" ++ catalogue) ∷ (codes "--table=" ++ table) ∷ more

-- the program's name, and the names of the two files as words of their own
abbrev pub words_naming_apart : List ℕ → List ℕ → List ℕ → List (List ℕ)
words_naming_apart program catalogue table =
    program ∷ codes "--catalogue" ∷ catalogue ∷ codes "--table" ∷ table ∷ []

-- the two names and these settings, and no day
abbrev pub with_settings : List ℕ → List ℕ → Settings → WordsValue
with_settings catalogue table settings =
    record { catalogue = catalogue; table = table; settings = settings; day = None }

-- the two names, the defaults and this day
abbrev pub with_day : List ℕ → List ℕ → DateValue → WordsValue
with_day catalogue table day = record (with_settings catalogue table defaults) { day = Some day }

-- the two names and the settings that a value makes, where there is a value
abbrev pub with_setting : {A : Type 0} → List ℕ → List ℕ → (A → Settings) → Option A → Option WordsValue
with_setting catalogue table set value = option_map (λ v. with_settings catalogue table (set v)) value

-- an option behind the two names gives the settings that its value makes; where its text is no value the words say
-- nothing
abbrev pub OptionSets : {A : Type 0} → List ℕ → (List ℕ → Option A) → (A → Settings) → Type 0
OptionSets option value set = (program catalogue table text : List ℕ) →
    words_of (words_naming program catalogue table ((option ++ text) ∷ []))
    ≡ with_setting catalogue table set (value text)
