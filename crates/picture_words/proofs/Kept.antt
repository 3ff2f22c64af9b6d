-- What is said is in its range.
use Rattle.std.proofs.Common.{◌≡◌, ℕ, ◌≤◌, List, [], ◌∷◌, Option, Some, None, refl, sym, ap, ◌∙◌, arith, subst}
use Rattle.std.specs.Prelude.{codes, Result, Ok, Err, IfOk}
use Rattle.std.specs.Option.{option_and_then}
use Rattle.clap.specs.Words.{Kinds, Row, first_of}
use Rattle.chart_model.specs.declared.settings.Settings.{Settings}
use Rattle.command_words.specs.Reading.{◌>>=◌, settings_in}
use Rattle.command_words.specs.Settings.{AreInRange, value_or}
use Rattle.command_words.proofs.Digits.{from_to_found}
use Rattle.command_words.proofs.Ranges.{in_range}
use Rattle.picture_words.specs.Reading.{PictureValue, found_in, kinds_of, value_of, view_in, where_none, width_in, width_of, words_in, words_of}
use Rattle.picture_words.specs.declared.end.WordsEnd.{WordsEnd}
use Rattle.picture_words.specs.declared.reading.PictureWords.{PictureWords}

some_is : {A : Type 0} (x y : A) → ◌≡◌ {A = Option A} (Some x) (Some y) → x ≡ y
some_is x y e = cc

-- what is done next with a value was done with one that is there
bound : {A B : Type 0} (value : Option A) (next : A → Option B) (b : B) → option_and_then next value ≡ Some b
    → (a : A) × (value ≡ Some a) × (next a ≡ Some b)
bound None next b e = absurd cc
bound (Some a) next b e = (a, refl, e)

kept : (found : List Row) (said : PictureValue) → words_in found ≡ Some said
    → (settings_in found ≡ Some said.settings) × (width_in found ≡ Some said.width)
unfolding words_in
kept found said e =
    let settings = bound (settings_in found) _ said e in
    let width = bound (width_in found) _ said settings.2 in
    let view = bound (view_in width.0 found) _ said width.2 in
    let catalogue = bound (first_of (codes "catalogue") found) _ said view.2 in
    let table = bound (first_of (codes "table") found) _ said catalogue.2 in
    let colours = bound (first_of (codes "colours") found) _ said table.2 in
    let same = some_is _ said colours.2 in (
      settings.1 ∙ ap (λ (value : PictureValue). Some value.settings) same,
      width.1 ∙ ap (λ (value : PictureValue). Some value.width) same,
    )

wide : (text : Option (List ℕ)) (width : ℕ) → value_or 1000 width_of text ≡ Some width → 1 ≤ width
wide None width e = let same : 1000 ≡ width = some_is 1000 width e in omega arith
wide (Some text) width e = (from_to_found 1 65535 text width e).1

said_by : (kinds : Kinds) (found : Option PictureValue) (said : PictureValue) → where_none kinds found ≡ Some said → found ≡ Some said
said_by [] found said e = e
said_by (kind ∷ more) found said e = absurd cc

found_by : (words : List (List ℕ)) (said : PictureValue) → words_of words ≡ Some said → found_in words ≡ Some said
unfolding words_of
found_by words said e = said_by (kinds_of words) (found_in words) said e

pub read_in_range : (words : List (List ℕ)) (result : Result PictureWords WordsEnd)
    → IfOk result (λ read. words_of words ≡ Some (value_of read)) → IfOk result (λ read. AreInRange read.settings)
read_in_range words (Ok read) e =
    in_range _ read.settings (kept _ (value_of read) (found_by words (value_of read) e)).0
read_in_range words (Err end) e = tt

pub read_wide : (words : List (List ℕ)) (result : Result PictureWords WordsEnd)
    → IfOk result (λ read. words_of words ≡ Some (value_of read)) → IfOk result (λ read. 1 ≤ read.width)
read_wide words (Ok read) e = wide _ read.width (kept _ (value_of read) (found_by words (value_of read) e)).1
read_wide words (Err end) e = tt
