-- Files that are fetched, and what is answered to them.
use Rattle.std.proofs.Common.{◌≡◌, ℕ, Bool, true, false, List, Option, Some, None, Result, Ok, Err, refl, sym, ◌∙◌, ap, subst}
use Rattle.std.specs.Prelude.{IsErrOf, IsErrAnd, IsTrue, unwrap_or}
use Rattle.std.proofs.lemmas.Result.{err_from_is_err_and}
use Rattle.chart_model.specs.Answers.{◌>>=◌, or_fault_as}
use Rattle.chart_ports.specs.Count.{Rose}
use Rattle.chart_ports.specs.Fetched.{fetched_of}
use Rattle.chart_ports.specs.declared.shelf.Fetched.{Fetched}
use Rattle.chart_ports.specs.declared.shelf.ShelfError.{ShelfError}
use Rattle.chart_ports.specs.declared.shelf.ShelfError.TheVariants as of_shelf
use Rattle.update_sequence.specs.Answers.{GivesRead}
use Rattle.update_sequence.specs.declared.fault.ReadFault.{ReadFault}
use Rattle.chart_store.specs.Fault.{or_refused}
use Rattle.chart_store.specs.Loaded.{FILE_LIMIT}
use Rattle.chart_store.specs.Refusal.{refusal_of_read}
use Rattle.chart_store.specs.declared.refusal.Refusal as of_store
use Rattle.chart_store.specs.declared.refusal.Refusal.TheVariants.{NoGeneral}
use Rattle.script_reader.specs.declared.reply.Reply.{Reply}
use Rattle.session_core.specs.declared.fault.EventFault.{EventFault}
use Rattle.session_core.specs.declared.fault.EventFault.TheVariants.{Refused, DeskFault, NoMemory}
use Rattle.update_sequence.specs.declared.info.FileInfo.{FileInfo}
use Rattle.session_core.specs.declared.refusal.LineRefusal.{LineRefusal}
use Rattle.session_core.specs.declared.refusal.LineRefusal.TheVariants.{ShelfFault, Store}
use Rattle.session_core.specs.Answers.{Gives, fault_of_read, fault_of_shelf, refused_or_none}
use Rattle.session_core.specs.Fetch.{AreFetched, Fetches, Files, fetches_of, file_in}
use Rattle.update_sequence.specs.Info.{info_in}
use Rattle.session_core.specs.Info.{info_of, info_reply}
use Rattle.session_core.specs.Outside.{FromOutside}

-- ---- faults that are passed up

pub passed-is : {A : Type 0} (r : Result A EventFault) (fault : EventFault) → IsErrAnd r (λ passed. passed ≡ fault) → r ≡ Err fault
passed-is r fault passed = let p = err_from_is_err_and r passed in p.1 ∙ ap Err p.2

pub passed-gives : {A : Type 0} (r : Result A EventFault) (fault : EventFault) (wanted : Result A LineRefusal) → IsErrAnd r (λ passed. passed ≡ fault)
    → Gives (Err fault) wanted → Gives r wanted
passed-gives {A = A} r fault wanted passed h = subst (λ (s : Result A EventFault). Gives s wanted) (sym (passed-is r fault passed)) h

-- what comes next of a value that isn't there: its fault is passed up
stopped : {A B : Type 0} (next : A → Result B LineRefusal) (fault : EventFault) (wanted : Result A LineRefusal) → Gives {A = A} (Err fault) wanted
    → Gives {A = B} (Err fault) (wanted >>= next)
stopped {A = A} next (Refused refusal) wanted h = ap (λ (w : Result A LineRefusal). w >>= next) h
stopped {A = A} next DeskFault wanted h = tt
stopped {A = A} next NoMemory wanted h = tt

pub next-stopped : {A B : Type 0} (next : A → Result B LineRefusal) (wanted : Result A LineRefusal) (r : Result B EventFault) (fault : EventFault)
    → IsErrAnd r (λ passed. passed ≡ fault) → Gives {A = A} (Err fault) wanted → Gives {A = B} r (wanted >>= next)
next-stopped next wanted r fault passed h = passed-gives r fault (wanted >>= next) passed (stopped next fault wanted h)

pub next-done : {A B : Type 0} (next : A → Result B LineRefusal) (wanted : Result A LineRefusal) (x : A) → wanted ≡ Ok x → (wanted >>= next) ≡ next x
next-done {A = A} next wanted x h = ap (λ (w : Result A LineRefusal). w >>= next) h

-- ---- fetches

-- no fetch failed
pub are-served : (tells : Bool) (files : Files) (before now : ℕ) → AreFetched tells files before now (fetches_of files false)
are-served tells files before now = record {
  told = λ t. (false, refl);
  cause = λ limit name none. absurd (let f : ◌≡◌ {A = Option Fetched} (Some (fetched_of limit (files name))) None = none in cc);
}

are-failed : (tells : Bool) (files : Files) (before now : ℕ) → Rose before now → AreFetched tells files before now (λ limit name. None)
are-failed tells files before now rose = record { told = λ t. (true, refl); cause = λ limit name none. rose }

-- of a shelf that doesn't tell
are-given : (files : Files) (before now : ℕ) (fetched : Fetched) → AreFetched false files before now (λ limit name. Some fetched)
are-given files before now fetched = record {
  told = λ t. absurd (let f : false ≡ true = t in cc);
  cause = λ limit name none. absurd (let f : ◌≡◌ {A = Option Fetched} (Some fetched) None = none in cc);
}

-- a fetch that gives nothing
pub failed-found : (tells : Bool) (files : Files) (before now limit : ℕ) (name : List ℕ) (r : Result (List ℕ) EventFault) (fault : ShelfError)
    → IsErrAnd r (λ passed. passed ≡ fault_of_shelf fault) → (IsErrOf {T = Fetched} (Err fault) of_shelf.Failed → Rose before now)
    → (fetches : Fetches) × AreFetched tells files before now fetches × Gives r (file_in limit name (fetches limit name))
failed-found tells files before now limit name r of_shelf.Failed passed cause =
    (λ l n. None, are-failed tells files before now (cause refl), passed-gives r (Refused ShelfFault) (Err ShelfFault) passed refl)
failed-found tells files before now limit name r of_shelf.NoMemory passed cause =
    (fetches_of files false, are-served tells files before now, passed-gives r NoMemory _ passed tt)

-- a fetch that answers
pub served-found : (tells : Bool) (files : Files) (before now limit : ℕ) (name shown : List ℕ) (fetched : Fetched) (answer : Result (List ℕ) EventFault)
    → shown ≡ name → (IsTrue tells → fetched ≡ fetched_of limit (files shown)) → Gives answer (file_in limit name (Some fetched))
    → (fetches : Fetches) × AreFetched tells files before now fetches × Gives answer (file_in limit name (fetches limit name))
served-found true files before now limit name shown fetched answer same is h = (
  fetches_of files false,
  are-served true files before now,
  subst (λ (f : Fetched). Gives answer (file_in limit name (Some f))) (is refl ∙ ap (λ (n : List ℕ). fetched_of limit (files n)) same) h,
)
served-found false files before now limit name shown fetched answer same is h = (λ l n. Some fetched, are-given files before now fetched, h)

-- nothing but this comes from outside
abbrev pub fetching : Fetches → FromOutside
fetching fetches = record { fetches = fetches; painting_failed = false; numbers = record { blocks = 0; items = 0 } }

-- ---- what a file says of itself

abbrev by_read : Result FileInfo ReadFault → Result Reply LineRefusal
by_read read = or_fault_as Store (or_refused refusal_of_read read) >>= λ info. Ok (info_reply info)

abbrev by_bytes : List ℕ → Result Reply LineRefusal
by_bytes bytes = by_read (info_in bytes)

info-by_file : (name : List ℕ) (o : Option Fetched) → info_of name o ≡ (file_in FILE_LIMIT name o >>= by_bytes)
unfolding info_of
info-by_file name o = refl

pub info-stopped : (name : List ℕ) (o : Option Fetched) (r : Result Reply EventFault) (fault : EventFault) → IsErrAnd r (λ passed. passed ≡ fault)
    → Gives (Err fault) (file_in FILE_LIMIT name o) → Gives r (info_of name o)
info-stopped name o r fault passed h =
    subst (Gives r) (sym (info-by_file name o)) (next-stopped by_bytes (file_in FILE_LIMIT name o) r fault passed h)

info-read_as : (name : List ℕ) (o : Option Fetched) (bytes shown : List ℕ) → file_in FILE_LIMIT name o ≡ Ok bytes → shown ≡ bytes
    → info_of name o ≡ by_bytes shown
info-read_as name o bytes shown found same =
    info-by_file name o ∙ next-done by_bytes (file_in FILE_LIMIT name o) bytes found ∙ ap by_bytes (sym same)

-- a fault below is refused as its row of the table
read-row : (row : Option of_store.Refusal) (fault : ReadFault) (wanted : Result FileInfo ReadFault) → refusal_of_read fault ≡ row
    → GivesRead (Err fault) wanted → Gives {A = Reply} (Err (refused_or_none row)) (by_read wanted)
read-row None fault wanted e h = tt
read-row (Some refusal) fault wanted e h =
    ap by_read (h (λ same. let f : ◌≡◌ {A = Option of_store.Refusal} (Some refusal) None = sym e ∙ ap refusal_of_read same in cc))
    ∙ ap (λ (o : Option of_store.Refusal). Err (Store (unwrap_or o NoGeneral))) e

read-fails : (fault : ReadFault) (wanted : Result FileInfo ReadFault) → GivesRead (Err fault) wanted
    → Gives {A = Reply} (Err (fault_of_read fault)) (by_read wanted)
read-fails fault wanted h = read-row (refusal_of_read fault) fault wanted refl h

pub info-refused : (name : List ℕ) (o : Option Fetched) (bytes shown : List ℕ) (r : Result Reply EventFault) (fault : ReadFault)
    → IsErrAnd r (λ passed. passed ≡ fault_of_read fault) → file_in FILE_LIMIT name o ≡ Ok bytes → shown ≡ bytes → GivesRead (Err fault) (info_in shown)
    → Gives r (info_of name o)
info-refused name o bytes shown r fault passed found same h =
    subst (Gives r) (sym (info-read_as name o bytes shown found same))
    (passed-gives r (fault_of_read fault) (by_bytes shown) passed (read-fails fault (info_in shown) h))

pub info-done : (name : List ℕ) (o : Option Fetched) (bytes shown : List ℕ) (info : FileInfo) → file_in FILE_LIMIT name o ≡ Ok bytes → shown ≡ bytes
    → info_in shown ≡ Ok info → info_of name o ≡ Ok (info_reply info)
info-done name o bytes shown info found same h = info-read_as name o bytes shown found same ∙ ap by_read h
