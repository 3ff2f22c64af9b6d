-- Words that begin with no hyphen: the names of files behind their options, and a word that belongs to none.
use Rattle.std.proofs.Common.{◌≡◌, ◌≢◌, ℕ, List, [], ◌∷◌, ◌++◌, false, eqb, Option, Some, None, refl, ap, ap₂, ◌∙◌}
use Rattle.std.specs.Prelude.{codes, slice_index, fold, is_some}
use Rattle.std.specs.Str.{bytes_eq}
use Rattle.std.proofs.lemmas.Bool.{eqb-true, false_from_ne_true}
use Rattle.clap.specs.Kinds.{Kinds, or_else}
use Rattle.clap.specs.Lexer.{strip_byte}
use Rattle.clap.specs.Walk.{Row, Rule, Walk, finished, idle, nothing_held, option, settled, walk_from, walked}
use Rattle.clap.specs.Simple.{Shape, built, entered}
use Rattle.clap.specs.Faults.{check_fault, defaults_fault, entered_fault, settle_fault, turn_fault, walk_fault}
use Rattle.clap.specs.declared.error.kind.ErrorKind.TheVariants.{UnknownArgument}
use Rattle.clap.proofs.OnLiterals.{clap_on_literals}
use Rattle.command_words.specs.Command.{ecdis}
use Rattle.command_words.specs.Settings.{defaults}
use Rattle.command_words.specs.Reading.{WordsValue, words_in, settings_in, where_none, words_of}
use Rattle.command_words.specs.Options.{words_naming, words_naming_apart, with_settings}

abbrev shape : Shape
shape = (built ecdis).top

abbrev rules : List Rule
rules = shape.rules

-- ---- a word without a hyphen in front

no_hyphen : (word : List ℕ) → slice_index word 0 ≢ 45 → strip_byte 45 word ≡ None
no_hyphen [] other = refl
no_hyphen (x ∷ xs) other = let e : eqb x 45 ≡ false = false_from_ne_true _ (λ h. other (eqb-true _ _ h)) in rw e refl

no_hyphens : (word : List ℕ) → slice_index word 0 ≢ 45 → bytes_eq word (45 ∷ 45 ∷ []) ≡ false
no_hyphens [] other = refl
no_hyphens (x ∷ xs) other = let e : eqb x 45 ≡ false = false_from_ne_true _ (λ h. other (eqb-true _ _ h)) in rw e refl

-- ---- where the walk stands

abbrev waiting_for : List ℕ → List Row → Walk
waiting_for id rows = record {
  held = record { rows = rows; pending = Some (id, []); skip = 0 };
  waiting = option id;
  position = 1;
  is_trailing = false;
  stopped = None;
}

abbrev with_value : List ℕ → List ℕ → List Row → Walk
with_value id word rows = record {
  held = record { rows = rows; pending = Some (id, word ∷ []); skip = 0 };
  waiting = idle;
  position = 1;
  is_trailing = false;
  stopped = None;
}

takes_catalogue : (word : List ℕ) (rows : List Row) → strip_byte 45 word ≡ None → bytes_eq word (45 ∷ 45 ∷ []) ≡ false
    → walked rules [] (waiting_for (codes "catalogue") rows) word ≡ with_value (codes "catalogue") word rows
unfolding walked
takes_catalogue word rows s b = rw (b, s, s) refl

takes_table : (word : List ℕ) (rows : List Row) → strip_byte 45 word ≡ None → bytes_eq word (45 ∷ 45 ∷ []) ≡ false
    → walked rules [] (waiting_for (codes "table") rows) word ≡ with_value (codes "table") word rows
unfolding walked
takes_table word rows s b = rw (b, s, s) refl

no_fault : (id word : List ℕ) (rows : List Row) → strip_byte 45 word ≡ None → bytes_eq word (45 ∷ 45 ∷ []) ≡ false
    → turn_fault shape [] (waiting_for id rows) word ≡ []
no_fault id word rows s b = rw (b, s, s) refl

-- ---- the walk, word by word

step : (w next : Walk) (word : List ℕ) (rest : List (List ℕ)) → turn_fault shape [] w word ≡ []
    → walked rules [] w word ≡ next
    → walk_fault shape [] w (word ∷ rest) ≡ walk_fault shape [] next rest
unfolding walk_fault
step w next word rest none goes = ap₂ (λ (kinds : Kinds) (w : Walk). or_else kinds (walk_fault shape [] w rest))
    none goes

ends : (w : Walk) → walk_fault shape [] w [] ≡ []
unfolding walk_fault
ends w = refl

abbrev start : Walk
start = walk_from nothing_held

abbrev catalogue_row : List ℕ → List Row
catalogue_row catalogue = (settled rules (with_value (codes "catalogue") catalogue []).held).rows

abbrev told_by : Kinds → Walk → Option WordsValue
told_by kinds w = where_none
    (or_else kinds (or_else (entered_fault (built ecdis) w.stopped)
    (or_else (settle_fault rules shape.args_override_self w.held)
    (or_else (defaults_fault (settled rules w.held).rows rules)
    (check_fault shape (finished rules w.held) (is_some (entered (built ecdis) w.stopped)))))))
    (words_in (finished rules w.held))

told : (program : List ℕ) (words : List (List ℕ)) → words_of (program ∷ words)
    ≡ told_by (walk_fault shape [] start words) (fold (walked rules []) start words)
unfolding words_of
told program words = refl

opens_catalogue : walked rules [] start (codes "--catalogue") ≡ waiting_for (codes "catalogue") []
unfolding clap_on_literals
opens_catalogue = refl

opens_table : (catalogue : List ℕ) → walked rules [] (with_value (codes "catalogue") catalogue []) (codes "--table")
    ≡ waiting_for (codes "table") (catalogue_row catalogue)
unfolding clap_on_literals
opens_table catalogue = refl

whole : (catalogue table : List ℕ)
    → told_by [] (with_value (codes "table") table (catalogue_row catalogue))
    ≡ Some (with_settings catalogue table defaults)
unfolding clap_on_literals words_in settings_in
whole catalogue table = refl

pub named_apart : (program catalogue table : List ℕ) → slice_index catalogue 0 ≢ 45 → slice_index table 0 ≢ 45
    → words_of (words_naming_apart program catalogue table) ≡ Some (with_settings catalogue table defaults)
named_apart program catalogue table c t =
    let words = codes "--catalogue" ∷ catalogue ∷ codes "--table" ∷ table ∷ [] in
    let goes = ap (λ (w : Walk). fold (walked rules []) w (catalogue ∷ codes "--table" ∷ table ∷ [])) opens_catalogue
    ∙ ap (λ (w : Walk). fold (walked rules []) w (codes "--table" ∷ table ∷ []))
    (takes_catalogue catalogue [] (no_hyphen catalogue c) (no_hyphens catalogue c))
    ∙ ap (λ (w : Walk). fold (walked rules []) w (table ∷ [])) (opens_table catalogue)
    ∙ takes_table table (catalogue_row catalogue) (no_hyphen table t) (no_hyphens table t) in
    let none = step start _ (codes "--catalogue") _ refl opens_catalogue
    ∙ step _ _ catalogue _ (no_fault (codes "catalogue") catalogue [] (no_hyphen catalogue c) (no_hyphens catalogue c))
    (takes_catalogue catalogue [] (no_hyphen catalogue c) (no_hyphens catalogue c))
    ∙ step _ _ (codes "--table") _ refl (opens_table catalogue)
    ∙ step _ _ table _ (no_fault (codes "table") table (catalogue_row catalogue) (no_hyphen table t) (no_hyphens table t))
    (takes_table table (catalogue_row catalogue) (no_hyphen table t) (no_hyphens table t)) in
    told program words ∙ ap₂ told_by (none ∙ ends (with_value (codes "table") table (catalogue_row catalogue)))
    goes ∙ whole catalogue table

-- ---- a word that belongs to no option

abbrev idle_with : List Row → Walk
idle_with rows = record {
  held = record { rows = rows; pending = None; skip = 0 };
  waiting = idle;
  position = 1;
  is_trailing = false;
  stopped = None;
}

abbrev both_rows : List ℕ → List ℕ → List Row
both_rows catalogue table = (settled rules (with_value (codes "table") table (catalogue_row catalogue)).held).rows

reads_catalogue : (catalogue : List ℕ)
    → walked rules [] start (codes "--catalogue=" ++ catalogue) ≡ idle_with (catalogue_row catalogue)
unfolding clap_on_literals
reads_catalogue catalogue = refl

reads_table : (catalogue table : List ℕ)
    → walked rules [] (idle_with (catalogue_row catalogue)) (codes "--table=" ++ table)
    ≡ idle_with (both_rows catalogue table)
unfolding clap_on_literals
reads_table catalogue table = refl

strays : (word : List ℕ) (rows : List Row) → strip_byte 45 word ≡ None → bytes_eq word (45 ∷ 45 ∷ []) ≡ false
    → turn_fault shape [] (idle_with rows) word ≡ UnknownArgument ∷ []
strays word rows s b = rw (b, s, s) refl

strays_at_last : (word : List ℕ) (rows : List Row) → turn_fault shape [] (idle_with rows) word ≡ UnknownArgument ∷ []
    → walk_fault shape [] (idle_with rows) (word ∷ []) ≡ UnknownArgument ∷ []
unfolding walk_fault
strays_at_last word rows fault = ap (λ (kinds : Kinds). or_else kinds (walk_fault shape [] (walked rules [] (idle_with rows) word) [])) fault

pub stray : (program catalogue table word : List ℕ) → slice_index word 0 ≢ 45
    → words_of (words_naming program catalogue table (word ∷ [])) ≡ None
stray program catalogue table word other =
    let words = (codes "--catalogue=" ++ catalogue) ∷ (codes "--table=" ++ table) ∷ word ∷ [] in
    let fault = step start _ (codes "--catalogue=" ++ catalogue) _ refl (reads_catalogue catalogue)
    ∙ step _ _ (codes "--table=" ++ table) _ refl (reads_table catalogue table)
    ∙ strays_at_last word (both_rows catalogue table) (strays word (both_rows catalogue table) (no_hyphen word other) (no_hyphens word other)) in
    told program words ∙ ap (λ (kinds : Kinds). told_by kinds (fold (walked rules []) start words)) fault
