-- What is said by words that are written out but for the names and values in them.
use Rattle.std.proofs.Common.{◌≡◌, ℕ, List, [], ◌∷◌, ◌++◌, true, Option, Some, None, refl}
use Rattle.std.specs.Prelude.{codes, option_map}
use Rattle.clap.proofs.OnLiterals.{clap_on_literals}
use Rattle.chart_model.specs.declared.settings.Settings.{Settings}
use Rattle.command_words.specs.Settings.{defaults, centimetres_of, scale_of, shades_of}
use Rattle.command_words.specs.Reading.{WordsValue, ◌>>=◌, day_of, words_of, words_in, settings_in}
use Rattle.command_words.specs.Options.{words_naming, with_day, with_settings, OptionSets}
use Rattle.date_display.specs.Texts.{date_in}
use Rattle.date_display.specs.Days.{DateValue}

-- one value that may be missing decides on the settings, and these on the whole
abbrev whole : {A : Type 0} → List ℕ → List ℕ → Option A → (A → Settings) → Option WordsValue
whole catalogue table value set = (value >>= (λ v. Some (set v))) >>= (λ settings. Some (with_settings catalogue table settings))

one_value : {A : Type 0} (catalogue table : List ℕ) (value : Option A) (set : A → Settings)
    → whole catalogue table value set ≡ option_map (λ v. with_settings catalogue table (set v)) value
one_value catalogue table None set = refl
one_value catalogue table (Some v) set = refl

pub named : (program catalogue table : List ℕ)
    → words_of (words_naming program catalogue table []) ≡ Some (with_settings catalogue table defaults)
unfolding clap_on_literals words_of words_in settings_in
named program catalogue table = refl

pub safety_contour_set : OptionSets (codes "--safety-contour=") centimetres_of (λ depth. record defaults { safety_contour = depth })
unfolding clap_on_literals words_of words_in settings_in
safety_contour_set program catalogue table text = one_value catalogue table (centimetres_of text)
    (λ depth. record defaults { safety_contour = depth })

pub safety_depth_set : OptionSets (codes "--safety-depth=") centimetres_of (λ depth. record defaults { safety_depth = depth })
unfolding clap_on_literals words_of words_in settings_in
safety_depth_set program catalogue table text = one_value catalogue table (centimetres_of text)
    (λ depth. record defaults { safety_depth = depth })

pub shallow_set : OptionSets (codes "--shallow=") centimetres_of (λ depth. record defaults { shallow = depth })
unfolding clap_on_literals words_of words_in settings_in
shallow_set program catalogue table text = one_value catalogue table (centimetres_of text)
    (λ depth. record defaults { shallow = depth })

pub deep_set : OptionSets (codes "--deep=") centimetres_of (λ depth. record defaults { deep = depth })
unfolding clap_on_literals words_of words_in settings_in
deep_set program catalogue table text = one_value catalogue table (centimetres_of text)
    (λ depth. record defaults { deep = depth })

pub shades_set : OptionSets (codes "--shades=") shades_of (λ shades. record defaults { shades = shades })
unfolding clap_on_literals words_of words_in settings_in
shades_set program catalogue table text = one_value catalogue table (shades_of text)
    (λ shades. record defaults { shades = shades })

pub pattern_set : (program catalogue table : List ℕ)
    → words_of (words_naming program catalogue table (codes "--pattern" ∷ []))
    ≡ Some (with_settings catalogue table (record defaults { pattern = true }))
unfolding clap_on_literals words_of words_in settings_in
pattern_set program catalogue table = refl

pub scale_set : OptionSets (codes "--scale=") scale_of (λ scale. record defaults { scale = scale })
unfolding clap_on_literals words_of words_in settings_in
scale_set program catalogue table text = one_value catalogue table (scale_of text)
    (λ scale. record defaults { scale = scale })

-- a day that may be missing decides on the whole
one_day : (catalogue table : List ℕ) (day : Option DateValue)
    → (option_map (λ date. Some date) day >>= (λ said. Some (record (with_settings catalogue table defaults) { day = said })))
    ≡ option_map (λ date. with_day catalogue table date) day
one_day catalogue table None = refl
one_day catalogue table (Some date) = refl

pub day_set : (program catalogue table text : List ℕ)
    → words_of (words_naming program catalogue table ((codes "--day=" ++ text) ∷ []))
    ≡ option_map (λ day. with_day catalogue table day) (date_in text)
unfolding clap_on_literals words_of words_in settings_in
day_set program catalogue table text = one_day catalogue table (date_in text)

-- ---- words that say nothing

pub nothing : words_of [] ≡ None
unfolding clap_on_literals words_of
nothing = refl

pub no_catalogue : (program table : List ℕ)
    → words_of (program ∷ (codes "--table=" ++ table) ∷ []) ≡ None
unfolding clap_on_literals words_of
no_catalogue program table = refl

pub no_table : (program catalogue : List ℕ)
    → words_of (program ∷ (codes "--catalogue=" ++ catalogue) ∷ []) ≡ None
unfolding clap_on_literals words_of
no_table program catalogue = refl

pub twice : (program catalogue table other : List ℕ)
    → words_of (words_naming program catalogue table ((codes "--table=" ++ other) ∷ [])) ≡ None
unfolding clap_on_literals words_of
twice program catalogue table other = refl

pub help : (program catalogue table : List ℕ)
    → words_of (words_naming program catalogue table (codes "--help" ∷ [])) ≡ None
unfolding clap_on_literals words_of
help program catalogue table = refl

pub version : (program catalogue table : List ℕ)
    → words_of (words_naming program catalogue table (codes "--version" ∷ [])) ≡ None
unfolding clap_on_literals words_of
version program catalogue table = refl
