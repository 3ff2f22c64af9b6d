-- What each verb's words are answered.
use Rattle.std.proofs.Common.{◌≡◌, ℕ, true, false, cond, ◌&&◌, List, Option, Some, None, refl, sym, subst}
use Rattle.std.specs.Prelude.{codes, Result, Ok, Err, OnErr}
use Rattle.std.specs.Option.{SomeIff}
use Rattle.std.specs.Str.{bytes_eq}
use Rattle.std.proofs.lemmas.Result.{on_err_weaker}
use Rattle.chart_model.specs.Key.{IsKey, is_key}
use Rattle.text_scan.specs.Number.{value_of}
use Rattle.script_reader.specs.Word.{IsWord}
use Rattle.script_reader.specs.Number.{IsShortNumber, is_short_number}
use Rattle.script_reader.specs.declared.event.Event.{Event}
use Rattle.script_reader.specs.declared.event.Event.TheVariants.{Info, Load, Rollback, Route, Refresh, Panel, ClosePanel, Begin, Cover}
use Rattle.script_reader.specs.Line.{NamesFile}
use Rattle.script_reader.specs.Reading.{info_in, load_in, rollback_in, route_in, save_step_with, save_step_in, refresh_in, paint_with, paint_in, panel_in, close_panel_in, make_with, make_in, begin_in, step_with, step_in, cover_in, event_with_one}
use Rattle.script_reader.proofs.WordTests.{KeysAreTested, Decides-word, Decides-short, no_short}
use Rattle.script_reader.proofs.Events.{refresh_again, panel_again, close_panel_again}

-- a value that there is exactly where a fact holds
pub some_read : {X : Type 0} (P : Type 0) (o : Option X) (x v : X) → SomeIff o P v → o ≡ Some x → P × (x ≡ v)
some_read {X} P o x v h e = subst (λ (y : Option X). SomeIff y P v) e h

pub when_failed : {T E : Type 0} (P : Type 0) (r : Result T E) → P → OnErr r P
when_failed P (Ok x) p = tt
when_failed P (Err e) p = p

pub info_read : (word name : List ℕ) → IsWord word → name ≡ word → Some (Info name) ≡ info_in word
info_read word name is same = rw (same, (Decides-word word).1 is) refl

pub route_read : (word name : List ℕ) → IsWord word → name ≡ word → Some (Route name) ≡ route_in word
route_read word name is same = rw (same, (Decides-word word).1 is) refl

pub load_read : (word name : List ℕ) → IsWord word → name ≡ word → Some (Load name) ≡ load_in word
load_read word name is same = rw (same, (Decides-word word).1 is) refl

pub begin_read : (word name : List ℕ) → IsWord word → name ≡ word → Some (Begin name) ≡ begin_in word
begin_read word name is same = rw (same, (Decides-word word).1 is) refl

pub cover_read : (word name : List ℕ) → IsWord word → name ≡ word → Some (Cover name) ≡ cover_in word
cover_read word name is same = rw (same, (Decides-word word).1 is) refl

pub info_again : (word : List ℕ) → IsWord word → info_in word ≡ Some (Info word)
info_again word is = rw ((Decides-word word).1 is) refl

pub route_again : (word : List ℕ) → IsWord word → route_in word ≡ Some (Route word)
route_again word is = rw ((Decides-word word).1 is) refl

pub load_again : (word : List ℕ) → IsWord word → load_in word ≡ Some (Load word)
load_again word is = rw ((Decides-word word).1 is) refl

pub begin_again : (word : List ℕ) → IsWord word → begin_in word ≡ Some (Begin word)
begin_again word is = rw ((Decides-word word).1 is) refl

pub cover_again : (word : List ℕ) → IsWord word → cover_in word ≡ Some (Cover word)
cover_again word is = rw ((Decides-word word).1 is) refl

pub rollback_read : KeysAreTested → (cell digits key : List ℕ) (number : ℕ) → IsKey cell → key ≡ cell → IsShortNumber digits → number ≡ value_of digits
    → Some (Rollback key number) ≡ rollback_in cell digits
rollback_read tested cell digits key number is same short value = rw (same, value, (tested cell).1 is, (Decides-short digits).1 short) refl

pub rollback_missed : (cell digits : List ℕ) → ¬ IsShortNumber digits → None ≡ rollback_in cell digits
rollback_missed cell digits other =
    elim (is_key cell) as (λ b. None ≡ cond (b && is_short_number digits) (Some (Rollback cell (value_of digits))) None) [
      | true ↦ rw (no_short digits other) refl
      | false ↦ refl
    ]

pub save_step_read : (digits : List ℕ) (number : ℕ) → IsShortNumber digits → number ≡ value_of digits → save_step_with number ≡ save_step_in digits
save_step_read digits number short is = rw (is, (Decides-short digits).1 short) refl

pub step_read : (digits : List ℕ) (number : ℕ) → IsShortNumber digits → number ≡ value_of digits → step_with number ≡ step_in digits
step_read digits number short is = rw (is, (Decides-short digits).1 short) refl

-- where one number isn't one, nothing is asked for
pub number_missed : (event : Option Event) (digits : List ℕ) → ¬ IsShortNumber digits → None ≡ cond (is_short_number digits) event None
number_missed event digits other = rw (no_short digits other) refl

pub refresh_read : (digits : List ℕ) (number : ℕ) → IsShortNumber digits → number ≡ value_of digits → Some (Refresh number) ≡ refresh_in digits
refresh_read digits number short is = sym (refresh_again number digits short is)

pub panel_read : (digits : List ℕ) (number : ℕ) → IsShortNumber digits → number ≡ value_of digits → Some (Panel number) ≡ panel_in digits
panel_read digits number short is = sym (panel_again number digits short is)

pub close_panel_read : (digits : List ℕ) (number : ℕ) → IsShortNumber digits → number ≡ value_of digits → Some (ClosePanel number) ≡ close_panel_in digits
close_panel_read digits number short is = sym (close_panel_again number digits short is)

pub paint_read : (panel calls : List ℕ) (number other : ℕ) → IsShortNumber panel → number ≡ value_of panel → IsShortNumber calls → other ≡ value_of calls
    → paint_with number other ≡ paint_in panel calls
paint_read panel calls number other p is k of = rw (is, of, (Decides-short panel).1 p, (Decides-short calls).1 k) refl

pub make_read : (areas update : List ℕ) (number other : ℕ) → IsShortNumber areas → number ≡ value_of areas → IsShortNumber update → other ≡ value_of update
    → make_with number other ≡ make_in areas update
make_read areas update number other a is u of = rw (is, of, (Decides-short areas).1 a, (Decides-short update).1 u) refl

-- where one of two numbers isn't one, nothing is asked for
pub first_missed : (event : Option Event) (first second : List ℕ) → ¬ IsShortNumber first
    → None ≡ cond (is_short_number first && is_short_number second) event None
first_missed event first second other = rw (no_short first other) refl

pub second_missed : (event : Option Event) (first second : List ℕ) → ¬ IsShortNumber second
    → None ≡ cond (is_short_number first && is_short_number second) event None
second_missed event first second other =
    elim (is_short_number first) as (λ b. None ≡ cond (b && is_short_number second) event None) [
      | true ↦ rw (no_short second other) refl
      | false ↦ refl
    ]

-- memory that runs out at the name of a file, seen from the verb
pub info_failed : {T E : Type 0} (verb word : List ℕ) (r : Result T E) → bytes_eq verb (codes "info") ≡ true → OnErr r (info_in word ≡ Some (Info word))
    → OnErr r ((event : Event) × (event_with_one verb word ≡ Some event) × NamesFile event)
info_failed verb word r is h = on_err_weaker r (λ e. (Info word, rw is e, tt)) h

pub load_failed : {T E : Type 0} (verb word : List ℕ) (r : Result T E) → bytes_eq verb (codes "info") ≡ false → bytes_eq verb (codes "load") ≡ true
    → OnErr r (load_in word ≡ Some (Load word)) → OnErr r ((event : Event) × (event_with_one verb word ≡ Some event) × NamesFile event)
load_failed verb word r other is h = on_err_weaker r (λ e. (Load word, rw (other, is) e, tt)) h

pub route_failed : {T E : Type 0} (verb word : List ℕ) (r : Result T E) → bytes_eq verb (codes "info") ≡ false → bytes_eq verb (codes "load") ≡ false
    → bytes_eq verb (codes "route") ≡ true → OnErr r (route_in word ≡ Some (Route word))
    → OnErr r ((event : Event) × (event_with_one verb word ≡ Some event) × NamesFile event)
route_failed verb word r info load is h = on_err_weaker r (λ e. (Route word, rw (info, load, is) e, tt)) h

pub begin_failed : {T E : Type 0} (verb word : List ℕ) (r : Result T E) → bytes_eq verb (codes "info") ≡ false → bytes_eq verb (codes "load") ≡ false
    → bytes_eq verb (codes "route") ≡ false → bytes_eq verb (codes "begin") ≡ true → OnErr r (begin_in word ≡ Some (Begin word))
    → OnErr r ((event : Event) × (event_with_one verb word ≡ Some event) × NamesFile event)
begin_failed verb word r info load route is h = on_err_weaker r (λ e. (Begin word, rw (info, load, route, is) e, tt)) h

pub cover_failed : {T E : Type 0} (verb word : List ℕ) (r : Result T E) → bytes_eq verb (codes "info") ≡ false → bytes_eq verb (codes "load") ≡ false
    → bytes_eq verb (codes "route") ≡ false → bytes_eq verb (codes "begin") ≡ false → bytes_eq verb (codes "cover") ≡ true
    → OnErr r (cover_in word ≡ Some (Cover word)) → OnErr r ((event : Event) × (event_with_one verb word ≡ Some event) × NamesFile event)
cover_failed verb word r info load route begin is h = on_err_weaker r (λ e. (Cover word, rw (info, load, route, begin, is) e, tt)) h
