-- What the mariner may set, and what stands where nothing is set. Depths are in centimetres.
use Rattle.std.specs.Prelude.{ℕ, ◌≤◌, ℤ, pos, ◌≤ℤ◌, Bool, false, if◌then◌else◌, codes}
use Rattle.std.specs.Prelude.{List, Option, Some, None, option_map}
use Rattle.std.specs.Str.{bytes_eq}
use Rattle.chart_model.specs.declared.settings.Settings.{Settings}
use Rattle.chart_model.specs.declared.settings.Shades.{Shades}
use Rattle.chart_model.specs.declared.settings.Shades.TheVariants.{Two, Four}
use Rattle.command_words.specs.Numbers.{number_from_to}

-- a depth is 0 to 10 km
abbrev pub IsCentimetres : ℤ → Type 0
IsCentimetres depth = (pos 0 ≤ℤ depth) × (depth ≤ℤ pos 1000000)

-- the denominator of a display scale
abbrev pub IsScale : ℕ → Type 0
IsScale scale = (1 ≤ scale) × (scale ≤ 100000000)

-- each of the settings is in its range
pub record AreInRange (settings : Settings) : Type 0 where
  pub safety_contour : IsCentimetres settings.safety_contour
  pub safety_depth : IsCentimetres settings.safety_depth
  pub shallow : IsCentimetres settings.shallow
  pub deep : IsCentimetres settings.deep
  pub scale : IsScale settings.scale

-- what stands where nothing is set
abbrev pub defaults : Settings
defaults = record {
  safety_contour = pos 3000;
  safety_depth = pos 3000;
  shallow = pos 200;
  deep = pos 3000;
  shades = Four;
  pattern = false;
  scale = 1;
}

-- what the text of a value says
abbrev pub centimetres_of : List ℕ → Option ℤ
centimetres_of text = option_map (λ n. pos n) (number_from_to 0 1000000 text)

abbrev pub scale_of : List ℕ → Option ℕ
scale_of text = number_from_to 1 100000000 text

abbrev pub shades_of : List ℕ → Option Shades
shades_of text =
    if bytes_eq text (codes "2") then Some Two
    else if bytes_eq text (codes "4") then Some Four
    else None

-- the flag's value, as `clap` gives it
abbrev pub is_set : Option (List ℕ) → Bool
is_set None = false
is_set (Some text) = bytes_eq text (codes "true")

-- what an option's text says, and where the option isn't there its default
abbrev pub value_or : {A : Type 0} → A → (List ℕ → Option A) → Option (List ℕ) → Option A
value_or default read None = Some default
value_or default read (Some text) = read text
