-- What is said by words that are written out but for the names and values in them.
use Rattle.std.proofs.Common.{◌≡◌, ℕ, List, [], ◌∷◌, ◌++◌, true, false, Option, Some, None, refl}
use Rattle.std.specs.Prelude.{codes, option_map}
use Rattle.clap.proofs.OnLiterals.{clap_on_literals}
use Rattle.command_words.specs.Reading.{◌>>=◌, settings_in}
use Rattle.picture_words.specs.Marked.{marked_from}
use Rattle.picture_words.specs.Naming.{naming, words_naming}
use Rattle.picture_words.specs.Reading.{PictureValue, ask, are_refused, width_of, words_in, words_of}
use Rattle.picture_words.specs.View.{ViewValue, view_of}

pub two : (program catalogue table colours one two : List ℕ)
    → words_of (words_naming program catalogue table colours (codes "--" ∷ one ∷ two ∷ []))
    ≡ Some (naming catalogue table colours (one ∷ two ∷ []))
unfolding clap_on_literals words_of words_in settings_in marked_from
two program catalogue table colours first second = refl

pub route : (program catalogue table colours route file : List ℕ)
    → words_of (words_naming program catalogue table colours ((codes "--route=" ++ route) ∷ codes "--" ∷ file ∷ []))
    ≡ Some (record (naming catalogue table colours (file ∷ [])) { route = Some route })
unfolding clap_on_literals words_of words_in settings_in marked_from
route program catalogue table colours name file = refl

-- the width decides on the whole
abbrev wide : List ℕ → List ℕ → List ℕ → List ℕ → Option ℕ → Option PictureValue
wide catalogue table colours file width =
    option_map (λ units. record (naming catalogue table colours (file ∷ [])) { width = units }) width

one_width : (catalogue table colours file : List ℕ) (width : Option ℕ)
    → (width >>= (λ w. Some (record (naming catalogue table colours (file ∷ [])) { width = w })))
    ≡ wide catalogue table colours file width
one_width catalogue table colours file None = refl
one_width catalogue table colours file (Some w) = refl

pub width : (program catalogue table colours width file : List ℕ)
    → words_of (words_naming program catalogue table colours ((codes "--width=" ++ width) ∷ codes "--" ∷ file ∷ []))
    ≡ wide catalogue table colours file (width_of width)
unfolding clap_on_literals words_of words_in settings_in marked_from
width program catalogue table colours text file = one_width catalogue table colours file (width_of text)

abbrev viewed : List ℕ → List ℕ → List ℕ → List ℕ → Option ViewValue → Option PictureValue
viewed catalogue table colours file view =
    option_map (λ v. record (naming catalogue table colours (file ∷ [])) { view = Some v }) view

one_view : (catalogue table colours file : List ℕ) (view : Option ViewValue)
    → (option_map (λ v. Some v) view >>= (λ v. Some (record (naming catalogue table colours (file ∷ [])) { view = v })))
    ≡ viewed catalogue table colours file view
one_view catalogue table colours file None = refl
one_view catalogue table colours file (Some v) = refl

pub view : (program catalogue table colours west south east north file : List ℕ)
    → words_of (words_naming program catalogue table colours
    (codes "--view" ∷ west ∷ south ∷ east ∷ north ∷ codes "--" ∷ file ∷ []))
    ≡ viewed catalogue table colours file
    (view_of 1000 ((61 ∷ west) ∷ (61 ∷ south) ∷ (61 ∷ east) ∷ (61 ∷ north) ∷ []))
unfolding clap_on_literals words_of words_in settings_in marked_from
view program catalogue table colours west south east north file =
    one_view catalogue table colours file (view_of 1000 ((61 ∷ west) ∷ (61 ∷ south) ∷ (61 ∷ east) ∷ (61 ∷ north) ∷ []))

-- ---- words that ask for a text

pub help : (program : List ℕ) → ask (program ∷ codes "--help" ∷ []) ≡ true
unfolding clap_on_literals ask marked_from
help program = refl

pub version : (program : List ℕ) → ask (program ∷ codes "--version" ∷ []) ≡ true
unfolding clap_on_literals ask marked_from
version program = refl

pub help_behind : (program catalogue table colours : List ℕ)
    → ask (words_naming program catalogue table colours (codes "--help" ∷ [])) ≡ true
unfolding clap_on_literals ask marked_from
help_behind program catalogue table colours = refl

pub help_unrefused : (program : List ℕ) → are_refused (program ∷ codes "--help" ∷ []) ≡ false
unfolding clap_on_literals are_refused marked_from
help_unrefused program = refl

-- ---- words that are refused

pub nothing : are_refused [] ≡ true
unfolding clap_on_literals are_refused marked_from
nothing = refl

pub no_catalogue : (program table colours file : List ℕ)
    → are_refused (program ∷ (codes "--table=" ++ table) ∷ (codes "--colours=" ++ colours) ∷ codes "--" ∷ file ∷ []) ≡ true
unfolding clap_on_literals are_refused marked_from
no_catalogue program table colours file = refl

pub no_colours : (program catalogue table file : List ℕ)
    → are_refused (program ∷ (codes "--catalogue=" ++ catalogue) ∷ (codes "--table=" ++ table) ∷ codes "--" ∷ file ∷ []) ≡ true
unfolding clap_on_literals are_refused marked_from
no_colours program catalogue table file = refl

pub no_file : (program catalogue table colours : List ℕ)
    → are_refused (words_naming program catalogue table colours []) ≡ true
unfolding clap_on_literals are_refused marked_from
no_file program catalogue table colours = refl

pub twice : (program catalogue table colours other file : List ℕ)
    → are_refused (words_naming program catalogue table colours ((codes "--table=" ++ other) ∷ codes "--" ∷ file ∷ [])) ≡ true
unfolding clap_on_literals are_refused marked_from
twice program catalogue table colours other file = refl

pub unasked : (program catalogue table colours : List ℕ) → ask (words_naming program catalogue table colours []) ≡ false
unfolding clap_on_literals ask marked_from
unasked program catalogue table colours = refl
