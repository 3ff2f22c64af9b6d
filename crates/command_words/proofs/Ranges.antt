-- What is said is in its range.
use Rattle.std.proofs.Common.{◌≡◌, ℕ, ◌≤◌, ℤ, pos, ◌≤ℤ◌, Bool, List, [], ◌∷◌, Option, Some, None, refl, ap, subst, sym}
use Rattle.std.proofs.Common.{arith}
use Rattle.std.specs.Prelude.{Result, Ok, Err, IfOk, IfSome, option_map, codes}
use Rattle.common_lemmas.proofs.Choices.{some_is}
use Rattle.command_words.specs.declared.fault.WordsFault.{WordsFault}
use Rattle.command_words.specs.declared.reading.Words.{Words}
use Rattle.clap.specs.Words.{Kinds, Row, fault_of, first_of, matches_of}
use Rattle.chart_model.specs.declared.settings.Settings.{Settings}
use Rattle.chart_model.specs.declared.settings.Shades.{Shades}
use Rattle.command_words.specs.Numbers.{number_from_to}
use Rattle.command_words.specs.Command.{ecdis}
use Rattle.command_words.specs.Settings.{AreInRange, IsCentimetres, IsScale, centimetres_of, defaults, is_set}
use Rattle.command_words.specs.Settings.{scale_of, value_or}
use Rattle.command_words.specs.Reading.{WordsValue, day_in, depth_in, ◌>>=◌, words_in, value_of, scale_in, settings_in}
use Rattle.command_words.specs.Reading.{shades_in, where_none, words_of}
use Rattle.command_words.specs.Options.{with_settings}
use Rattle.command_words.proofs.Digits.{from_to_found}
use Rattle.date_display.specs.Days.{DateValue}

within : (low high n : ℕ) → low ≤ n → n ≤ high → (pos low ≤ℤ pos n) × (pos n ≤ℤ pos high)
within low high n lower upper = (grind arith, grind arith)

read_depth : (o : Option ℕ) (depth : ℤ) → ((n : ℕ) → o ≡ Some n → n ≤ 1000000)
    → option_map (λ n. pos n) o ≡ Some depth → IsCentimetres depth
read_depth None depth most e = absurd cc
read_depth (Some n) depth most e = subst IsCentimetres (some_is (pos n) depth e)
    (within 0 1000000 n (omega arith) (most n refl))

said_depth : (default depth : ℤ) (text : Option (List ℕ)) → IsCentimetres default
    → value_or default centimetres_of text ≡ Some depth → IsCentimetres depth
said_depth default depth None is e = subst IsCentimetres (some_is _ _ e) is
said_depth default depth (Some text) is e = read_depth (number_from_to 0 1000000 text)
    depth (λ n found. (from_to_found 0 1000000 text n found).2) e

said_scale : (scale : ℕ) (text : Option (List ℕ)) → value_or 1 scale_of text ≡ Some scale → IsScale scale
said_scale scale None e = let same = some_is _ _ e in (omega arith, omega arith)
said_scale scale (Some text) e = let found = from_to_found 1 100000000 text scale e in (found.1, found.2)

-- the six values that may be missing, at once
all_in_range : (a b d f : Option ℤ) (g : Option Shades) (h : Option ℕ) (pattern : Bool) (settings : Settings)
    → ((x : ℤ) → a ≡ Some x → IsCentimetres x) → ((x : ℤ) → b ≡ Some x → IsCentimetres x)
    → ((x : ℤ) → d ≡ Some x → IsCentimetres x) → ((x : ℤ) → f ≡ Some x → IsCentimetres x)
    → ((n : ℕ) → h ≡ Some n → IsScale n)
    → (a >>= (λ safety_contour. b >>= (λ safety_depth. d >>= (λ shallow. f >>= (λ deep. g >>= (λ shades. h >>= (λ scale.
    Some (record {
      safety_contour = safety_contour;
      safety_depth = safety_depth;
      shallow = shallow;
      deep = deep;
      shades = shades;
      pattern = pattern;
      scale = scale;
    }))))))))
    ≡ Some settings
    → AreInRange settings
all_in_range None b d f g h pattern settings ra rb rd rf rh e = absurd cc
all_in_range (Some a) None d f g h pattern settings ra rb rd rf rh e = absurd cc
all_in_range (Some a) (Some b) None f g h pattern settings ra rb rd rf rh e = absurd cc
all_in_range (Some a) (Some b) (Some d) None g h pattern settings ra rb rd rf rh e = absurd cc
all_in_range (Some a) (Some b) (Some d) (Some f) None h pattern settings ra rb rd rf rh e = absurd cc
all_in_range (Some a) (Some b) (Some d) (Some f) (Some g) None pattern settings ra rb rd rf rh e = absurd cc
all_in_range (Some a) (Some b) (Some d) (Some f) (Some g) (Some h)
    pattern settings ra rb rd rf rh e = subst AreInRange (some_is _ settings e)
    (record { safety_contour = ra a refl; safety_depth = rb b refl; shallow = rd d refl; deep = rf f refl; scale = rh h refl })

pub in_range : (found : List Row) (settings : Settings) → settings_in found ≡ Some settings → AreInRange settings
unfolding settings_in
in_range found settings e = all_in_range (depth_in defaults.safety_contour (codes "safety-contour") found)
    (depth_in defaults.safety_depth (codes "safety-depth") found)
    (depth_in defaults.shallow (codes "shallow") found) (depth_in defaults.deep (codes "deep") found)
    (shades_in found) (scale_in found)
    (is_set (first_of (codes "pattern") found)) settings
    (λ x h. said_depth (pos 3000) x (first_of (codes "safety-contour") found) (within 0 1000000 3000 (omega arith) (omega arith)) h)
    (λ x h. said_depth (pos 3000) x (first_of (codes "safety-depth") found) (within 0 1000000 3000 (omega arith) (omega arith)) h)
    (λ x h. said_depth (pos 200) x (first_of (codes "shallow") found) (within 0 1000000 200 (omega arith) (omega arith)) h)
    (λ x h. said_depth (pos 3000) x (first_of (codes "deep") found) (within 0 1000000 3000 (omega arith) (omega arith)) h)
    (λ n h. said_scale n (first_of (codes "scale") found) h)
    e

pub settings_in_range : (found : List Row) (settings : Option Settings) → settings ≡ settings_in found → IfSome settings AreInRange
settings_in_range found None e = tt
settings_in_range found (Some settings) e = in_range found settings (sym e)

said_by : (kinds : Kinds) (o : Option WordsValue) (said : WordsValue) → where_none kinds o ≡ Some said → o ≡ Some said
said_by [] o said e = e
said_by (kind ∷ more) o said e = absurd cc

settings_kept : (catalogue table : Option (List ℕ)) (settings : Option Settings) (day : Option (Option DateValue)) (said : WordsValue)
    → (catalogue >>= (λ c. table >>= (λ t. settings >>= (λ s. day >>= (λ d. Some (record (with_settings c t s) { day = d })))))) ≡ Some said
    → settings ≡ Some said.settings
settings_kept None table settings day said e = absurd cc
settings_kept (Some c) None settings day said e = absurd cc
settings_kept (Some c) (Some t) None day said e = absurd cc
settings_kept (Some c) (Some t) (Some s) None said e = absurd cc
settings_kept (Some c) (Some t) (Some s) (Some d) said e = ap (λ (value : WordsValue). Some value.settings)
    (some_is (record (with_settings c t s) { day = d }) said e)

pub said_in_range : (words : List (List ℕ)) (said : WordsValue) → words_of words ≡ Some said
    → AreInRange said.settings
unfolding words_of words_in
said_in_range words said e =
    let found = matches_of ecdis words in
    let whole = said_by (fault_of ecdis words) (words_in found) said e in
    in_range found said.settings (settings_kept (first_of (codes "catalogue") found) (first_of (codes "table") found) (settings_in found) (day_in found) said whole)

pub read_in_range : (words : List (List ℕ)) (result : Result Words WordsFault)
    → IfOk result (λ read. words_of words ≡ Some (value_of read))
    → IfOk result (λ read. AreInRange read.settings)
read_in_range words (Ok read) e = said_in_range words (value_of read) e
read_in_range words (Err fault) e = tt
