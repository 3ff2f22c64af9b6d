-- A run that ends before its store is opened, and the tables of one that doesn't.
use Rattle.std.proofs.Common.{◌≡◌, ℕ, ◌⊎◌, Bool, true, false, List, [], refl, sym, ◌∙◌, ap, subst, inl, inr}
use Rattle.std.specs.Prelude.{IsTrue, Option, Some, None, Result, Ok, Err}
use Rattle.command_words.specs.Reading.{WordsValue}
use Rattle.command_words.specs.Settings.{defaults}
use Rattle.lookup_table.specs.declared.line.TableLine.{TableLine}
use Rattle.session_core.specs.Fetch.{Files}
use Rattle.session_core.specs.Model.{Portrayal, portrayal_with}
use Rattle.ecdis_cli.specs.FileStop.{EndsAtFile, GivesTable}
use Rattle.ecdis_cli.specs.Portrayal.{IsPortrayal}
use Rattle.ecdis_cli.specs.Status.{is_early}
use Rattle.ecdis_cli.specs.Tables.{TablesEnd, table_in}
use Rattle.ecdis_cli.specs.declared.run.file_stop.FileStop.TheVariants as of_file
use Rattle.ecdis_cli.specs.declared.run.status.Status.{Status}
use Rattle.ecdis_cli.specs.declared.run.status.Status.TheVariants as status
use Rattle.ecdis_cli.specs.declared.run.tables_fault.TablesFault.{TablesFault}
use Rattle.ecdis_cli.proofs.Runs.{IsOther}

some-same : {A : Type 0} (x y : A) → ◌≡◌ {A = Option A} (Some x) (Some y) → x ≡ y
some-same x y e = cc

ok-same : {A E : Type 0} (x y : A) → ◌≡◌ {A = Result A E} (Ok x) (Ok y) → x ≡ y
ok-same x y e = cc

err-same : {A E : Type 0} (x y : E) → ◌≡◌ {A = Result A E} (Err x) (Err y) → x ≡ y
err-same x y e = cc

-- what the words say, which are the same words
same-table : (files : Files) (words : Option WordsValue) (said other : WordsValue) → words ≡ Some said → words ≡ Some other
    → table_in files other ≡ table_in files said
same-table files words said other e f = ap (table_in files) (sym (some-same said other (sym e ∙ f)))

-- ---- portrayals

abbrev pub lines_or_none : Result (List TableLine) TablesEnd → List TableLine
lines_or_none (Ok lines) = lines
lines_or_none (Err ended) = []

-- one that a run might have drawn by
abbrev pub any_portrayal : Files → Option WordsValue → Portrayal
any_portrayal files None = portrayal_with [] defaults None
any_portrayal files (Some said) = portrayal_with (lines_or_none (table_in files said)) said.settings said.day

pub any-is : (tells : Bool) (files : Files) (words : Option WordsValue) → IsPortrayal tells files words (any_portrayal files words)
any-is tells files None = record {
  settings = λ said e. absurd (let f : ◌≡◌ {A = Option WordsValue} None (Some said) = e in cc);
  day = λ said e. absurd (let f : ◌≡◌ {A = Option WordsValue} None (Some said) = e in cc);
  table = λ said lines e t h. absurd (let f : ◌≡◌ {A = Option WordsValue} None (Some said) = e in cc);
}
any-is tells files (Some said) = record {
  settings = λ other e. ap (λ (w : WordsValue). w.settings) (some-same said other e);
  day = λ other e. ap (λ (w : WordsValue). w.day) (some-same said other e);
  table = λ other lines e t h. ap lines_or_none (ap (table_in files) (some-same said other e) ∙ h);
}

-- the table that was read, and the settings and the day of the words
pub read-is : (tells : Bool) (files : Files) (words : Option WordsValue) (said : WordsValue) (table : List TableLine) → words ≡ Some said
    → (IsTrue tells → table_in files said ≡ Ok table) → IsPortrayal tells files words (portrayal_with table said.settings said.day)
read-is tells files words said table e h = record {
  settings = λ other f. ap (λ (w : WordsValue). w.settings) (some-same said other (sym e ∙ f));
  day = λ other f. ap (λ (w : WordsValue). w.day) (some-same said other (sym e ∙ f));
  table = λ other lines f t g. ok-same table lines (sym (h t) ∙ sym (same-table files words said other e f) ∙ g);
}

-- ---- a run that ends at the catalogue or at the table

abbrev pub is_of_file : Status → Bool
is_of_file (status.Tables which fault) = true
is_of_file status.ShelfFault = true
is_of_file status.NoMemory = true
is_of_file other = false

file-is : (ended : Status) → EndsAtFile ended → is_of_file ended ≡ true
file-is ended (which, of_file.Fault fault, e) = ap is_of_file e
file-is ended (which, of_file.ShelfFault, e) = ap is_of_file e
file-is ended (which, of_file.NoMemory, e) = ap is_of_file e

pub not-file : (ended other : Status) → EndsAtFile ended → is_of_file other ≡ false → ended ≡ other → {X : Type 0} → X
not-file ended other at another e = absurd (let f : true ≡ false = sym (file-is ended at) ∙ ap is_of_file e ∙ another in cc)

pub file-status : (ended : Status) → EndsAtFile ended → IsOther ended
file-status ended at = record {
  not_done = λ e. not-file ended status.Done at refl e;
  not_fault = λ e. not-file ended status.ScriptFault at refl e;
  not_long = λ e. not-file ended status.ScriptLong at refl e;
}

fault-is : (ended : Status) (wanted : Result (List TableLine) TablesEnd) (which : ℕ) (fault : TablesFault) → ended ≡ status.Tables which fault
    → GivesTable (Err ended) wanted → wanted ≡ Err (record { which = which; fault = fault })
fault-is ended wanted which fault e h = subst (λ (s : Status). GivesTable (Err s) wanted) e h

-- the fault that is told is the one that there is
pub file-fault : (files : Files) (words : Option WordsValue) (said : WordsValue) (ended : Status) (which : ℕ) (fault : TablesFault)
    → words ≡ Some said → GivesTable (Err ended) (table_in files said) → ended ≡ status.Tables which fault
    → (other : WordsValue) × (words ≡ Some other) × (table_in files other ≡ Err (record { which = which; fault = fault }))
file-fault files words said ended which fault e h is = (said, e, fault-is ended (table_in files said) which fault is h)

file-told : (ended : Status) (wanted : Result (List TableLine) TablesEnd) (which : ℕ) (fault : TablesFault) (there : TablesEnd)
    → ended ≡ status.Tables which fault → GivesTable (Err ended) wanted → wanted ≡ Err there → ended ≡ status.Tables there.which there.fault
file-told ended wanted which fault there e h w =
    e ∙ ap (λ (x : TablesEnd). status.Tables x.which x.fault)
    (err-same {A = List TableLine} (record { which = which; fault = fault }) there (sym (fault-is ended wanted which fault e h) ∙ w))

told-by : (ended : Status) (wanted : Result (List TableLine) TablesEnd) (there : TablesEnd) → EndsAtFile ended → GivesTable (Err ended) wanted
    → wanted ≡ Err there → (ended ≡ status.Tables there.which there.fault) ⊎ ((ended ≡ status.ShelfFault) ⊎ (ended ≡ status.NoMemory))
told-by ended wanted there (which, of_file.Fault fault, e) h w = inl (file-told ended wanted which fault there e h w)
told-by ended wanted there (which, of_file.ShelfFault, e) h w = inr (inl e)
told-by ended wanted there (which, of_file.NoMemory, e) h w = inr (inr e)

-- a fault that is there is told, unless the shelf failed or memory ran out
pub file-ends : (files : Files) (words : Option WordsValue) (said other : WordsValue) (ended : Status) (there : TablesEnd) → words ≡ Some said
    → words ≡ Some other → EndsAtFile ended → GivesTable (Err ended) (table_in files said) → table_in files other ≡ Err there
    → (ended ≡ status.Tables there.which there.fault) ⊎ ((ended ≡ status.ShelfFault) ⊎ (ended ≡ status.NoMemory))
file-ends files words said other ended there e f at h w =
    told-by ended (table_in files said) there at h (sym (same-table files words said other e f) ∙ w)

read-by : (ended : Status) (wanted : Result (List TableLine) TablesEnd) (lines : List TableLine) → EndsAtFile ended → GivesTable (Err ended) wanted
    → wanted ≡ Ok lines → (ended ≡ status.Done) ⊎ ((ended ≡ status.ShelfFault) ⊎ (ended ≡ status.NoMemory))
read-by ended wanted lines (which, of_file.Fault fault, e) h w =
    absurd (let f : ◌≡◌ {A = Result (List TableLine) TablesEnd} (Ok lines) (Err (record { which = which; fault = fault }))
    = sym w ∙ fault-is ended wanted which fault e h in cc)
read-by ended wanted lines (which, of_file.ShelfFault, e) h w = inr (inl e)
read-by ended wanted lines (which, of_file.NoMemory, e) h w = inr (inr e)

-- files that read are read, unless the shelf failed or memory ran out
pub file-complete : (files : Files) (words : Option WordsValue) (said other : WordsValue) (ended : Status) (lines : List TableLine) → words ≡ Some said
    → words ≡ Some other → EndsAtFile ended → GivesTable (Err ended) (table_in files said) → table_in files other ≡ Ok lines
    → (ended ≡ status.Done) ⊎ ((ended ≡ status.ShelfFault) ⊎ (ended ≡ status.NoMemory))
file-complete files words said other ended lines e f at h w =
    read-by ended (table_in files said) lines at h (sym (same-table files words said other e f) ∙ w)

-- it tells nothing of the store
pub file-either : (ended : Status) → EndsAtFile ended → {X Y : Type 0} → X ⊎ (Y ⊎ ((ended ≡ status.NoMemory) ⊎ IsTrue (is_early ended)))
file-either ended (which, of_file.Fault fault, e) = inr (inr (inr (ap is_early e)))
file-either ended (which, of_file.ShelfFault, e) = inr (inr (inr (ap is_early e)))
file-either ended (which, of_file.NoMemory, e) = inr (inr (inl e))

-- ---- a run whose table was read

-- it doesn't end early
pub begun-not : (ended other : Status) → is_early ended ≡ false → is_early other ≡ true → ended ≡ other → {X : Type 0} → X
begun-not ended other begun early e = absurd (let f : true ≡ false = sym early ∙ sym (ap is_early e) ∙ begun in cc)

pub early-not : (ended : Status) → is_early ended ≡ false → {X : Type 0} → IsTrue (is_early ended) → X
early-not ended begun early = absurd (let f : true ≡ false = sym early ∙ begun in cc)

-- its table has no fault
pub read-not : (files : Files) (words : Option WordsValue) (said other : WordsValue) (table : List TableLine) (there : TablesEnd) → words ≡ Some said
    → words ≡ Some other → table_in files said ≡ Ok table → table_in files other ≡ Err there → {X : Type 0} → X
read-not files words said other table there e f h w =
    absurd (let g : ◌≡◌ {A = Result (List TableLine) TablesEnd} (Ok table) (Err there) = sym h ∙ sym (same-table files words said other e f) ∙ w in cc)
