-- The catalogue and the table, fetched and read.
use Rattle.std.proofs.Common.{◌≡◌, ℕ, Bool, List, Option, Some, None, Result, Ok, Err, refl, sym, ◌∙◌, ap, subst}
use Rattle.std.specs.Prelude.{IsErrAnd, IsErrOf, IsTrue, unwrap_or}
use Rattle.std.proofs.lemmas.Result.{err_from_is_err_and}
use Rattle.chart_model.specs.Answers.{◌>>=◌}
use Rattle.chart_model.specs.Memory as memory
use Rattle.chart_ports.specs.Fetched.{fetched_of}
use Rattle.chart_ports.specs.declared.shelf.Fetched.{Fetched}
use Rattle.chart_ports.specs.declared.shelf.ShelfError.{ShelfError}
use Rattle.chart_ports.specs.declared.shelf.ShelfError.TheVariants as of_shelf
use Rattle.command_words.specs.Reading.{WordsValue}
use Rattle.object_catalogue.specs.Answers as of_objects
use Rattle.object_catalogue.specs.Codes.{CatalogueValue}
use Rattle.object_catalogue.specs.Reading.{catalogue_in}
use Rattle.object_catalogue.specs.declared.fault.CatalogueFault.{CatalogueFault}
use Rattle.object_catalogue.specs.declared.fault.CatalogueFault.TheVariants as of_catalogue
use Rattle.lookup_table.specs.Answers as of_lines
use Rattle.lookup_table.specs.Lines as lookup
use Rattle.lookup_table.specs.declared.fault.TableFault.{TableFault}
use Rattle.lookup_table.specs.declared.fault.TableFault.TheVariants as of_table
use Rattle.lookup_table.specs.declared.line.TableLine.{TableLine}
use Rattle.session_core.specs.Fetch.{Files}
use Rattle.ecdis_cli.specs.FileStop.{Gives, GivesTable, status_of_file, stop_of, stop_of_shelf}
use Rattle.ecdis_cli.specs.Tables.{TablesEnd, bytes_in, catalogue_by, fault_of_catalogue, fault_of_table, in_file}
use Rattle.ecdis_cli.specs.Tables.{TABLES_LIMIT, lines_by, or_faulty, table_by, table_in}
use Rattle.ecdis_cli.specs.declared.run.file_stop.FileStop.{FileStop}
use Rattle.ecdis_cli.specs.declared.run.file_stop.FileStop.TheVariants.{Fault, ShelfFault, NoMemory}
use Rattle.ecdis_cli.specs.declared.run.status.Status.{Status}
use Rattle.ecdis_cli.specs.declared.run.status.Status.TheVariants as ends
use Rattle.ecdis_cli.specs.declared.run.tables_fault.TablesFault.{TablesFault}
use Rattle.ecdis_cli.specs.declared.run.tables_fault.TablesFault.TheVariants.{Absent}

-- ---- faults that are passed up

passed-is : {A : Type 0} (r : Result A FileStop) (stop : FileStop) → IsErrAnd r (λ passed. passed ≡ stop) → r ≡ Err stop
passed-is r stop passed = let p = err_from_is_err_and r passed in p.1 ∙ ap Err p.2

passed-gives : {A : Type 0} (r : Result A FileStop) (stop : FileStop) (wanted : Result A TablesFault)
    → IsErrAnd r (λ passed. passed ≡ stop) → Gives (Err stop) wanted → Gives r wanted
passed-gives {A = A} r stop wanted passed h =
    subst (λ (s : Result A FileStop). Gives s wanted) (sym (passed-is r stop passed)) h

same-stop : {A : Type 0} (x y : FileStop) → ◌≡◌ {A = Result A FileStop} (Err x) (Err y) → x ≡ y
same-stop x y e = cc

-- a stop that is passed up is the shelf's fault where it was that
pub passed-failed : {A B P : Type 0} (r : Result A FileStop) (stop : FileStop) → IsErrAnd r (λ passed. passed ≡ stop)
    → (IsErrOf {T = B} (Err stop) ShelfFault → P) → IsErrOf r ShelfFault → P
passed-failed {A = A} r stop passed cause failed =
    cause (ap Err (same-stop {A = A} stop ShelfFault (sym (passed-is r stop passed) ∙ failed)))

-- a fetch that fails tells nothing of the file
pub shelf-gives : {A : Type 0} (r : Result A FileStop) (error : ShelfError) (wanted : Result A TablesFault)
    → IsErrAnd r (λ passed. passed ≡ stop_of_shelf error) → Gives r wanted
shelf-gives r of_shelf.Failed wanted passed = passed-gives r ShelfFault wanted passed tt
shelf-gives r of_shelf.NoMemory wanted passed = passed-gives r NoMemory wanted passed tt

-- the shelf's fault is passed up as one
pub shelf-failed : {A B P : Type 0} (r : Result A FileStop) (error : ShelfError)
    → IsErrAnd r (λ passed. passed ≡ stop_of_shelf error) → (IsErrOf {T = B} (Err error) of_shelf.Failed → P)
    → IsErrOf r ShelfFault → P
shelf-failed r of_shelf.Failed passed cause failed = cause refl
shelf-failed {A = A} r of_shelf.NoMemory passed cause failed =
    absurd (let e : ◌≡◌ {A = Result A FileStop} (Err NoMemory) (Err ShelfFault) = sym (passed-is r NoMemory passed) ∙ failed in cc)

-- ---- a file that is read

-- what isn't there is not read
stopped : {A B : Type 0} (stop : FileStop) (bytes : Result A TablesFault) (next : A → Result B TablesFault)
    → Gives (Err stop) bytes → Gives (Err stop) (bytes >>= next)
stopped {A = A} (Fault fault) bytes next h = ap (λ (b : Result A TablesFault). b >>= next) h
stopped ShelfFault bytes next h = tt
stopped NoMemory bytes next h = tt

-- a fault below is the stop of its row
row-gives : {A E : Type 0} (told : E → Option TablesFault) (silent fault : E) (wanted : Result A E) (row : Option TablesFault)
    → told silent ≡ None → memory.Fails silent fault wanted → told fault ≡ row
    → Gives {X = A} (Err (stop_of row)) (or_faulty told wanted)
row-gives told silent fault wanted None none h e = tt
row-gives told silent fault wanted (Some x) none h e =
    ap (or_faulty told) (h (λ same. let f : ◌≡◌ {A = Option TablesFault} (Some x) None = sym e ∙ ap told same ∙ none in cc))
    ∙ ap (λ (o : Option TablesFault). Err (unwrap_or o Absent)) e

-- what is read is no fault of the shelf
row-failed : {A X : Type 0} (r : Result A FileStop) (row : Option TablesFault) → r ≡ Err (stop_of row) → IsErrOf r ShelfFault → X
row-failed {A = A} r (Some fault) e failed = absurd (let f : ◌≡◌ {A = Result A FileStop} (Err (Fault fault)) (Err ShelfFault) = sym e ∙ failed in cc)
row-failed {A = A} r None e failed = absurd (let f : ◌≡◌ {A = Result A FileStop} (Err NoMemory) (Err ShelfFault) = sym e ∙ failed in cc)

pub reading-failed : {A X : Type 0} (r : Result A FileStop) (row : Option TablesFault) → IsErrAnd r (λ passed. passed ≡ stop_of row)
    → IsErrOf r ShelfFault → X
reading-failed r row passed failed = row-failed r row (passed-is r (stop_of row) passed) failed

-- ---- the catalogue

catalogue-fails : (fault : CatalogueFault) (wanted : Result CatalogueValue CatalogueFault) → of_objects.Answers (Err fault) wanted
    → Gives {X = CatalogueValue} (Err (stop_of (fault_of_catalogue fault))) (or_faulty fault_of_catalogue wanted)
catalogue-fails fault wanted h =
    row-gives fault_of_catalogue of_catalogue.NoMemory fault wanted (fault_of_catalogue fault) refl h refl

catalogue-is : (fetched : Fetched) → catalogue_by fetched ≡ (bytes_in fetched >>= λ bytes. or_faulty fault_of_catalogue (catalogue_in bytes))
unfolding catalogue_by
catalogue-is fetched = refl

catalogue-read : (fetched : Fetched) (bytes shown : List ℕ) → bytes_in fetched ≡ Ok bytes → shown ≡ bytes
    → catalogue_by fetched ≡ or_faulty fault_of_catalogue (catalogue_in shown)
catalogue-read fetched bytes shown found same =
    catalogue-is fetched
    ∙ ap (λ (b : Result (List ℕ) TablesFault). b >>= λ l. or_faulty fault_of_catalogue (catalogue_in l)) found
    ∙ ap (λ (l : List ℕ). or_faulty fault_of_catalogue (catalogue_in l)) (sym same)

pub catalogue-stopped : (fetched : Fetched) (r : Result CatalogueValue FileStop) (stop : FileStop)
    → IsErrAnd r (λ passed. passed ≡ stop) → Gives {X = List ℕ} (Err stop) (bytes_in fetched) → Gives r (catalogue_by fetched)
catalogue-stopped fetched r stop passed h =
    passed-gives r stop (catalogue_by fetched) passed
    (subst (Gives {X = CatalogueValue} (Err stop)) (sym (catalogue-is fetched))
    (stopped stop (bytes_in fetched) (λ l. or_faulty fault_of_catalogue (catalogue_in l)) h))

pub catalogue-refused : (fetched : Fetched) (bytes shown : List ℕ) (r : Result CatalogueValue FileStop) (fault : CatalogueFault)
    → IsErrAnd r (λ passed. passed ≡ stop_of (fault_of_catalogue fault)) → bytes_in fetched ≡ Ok bytes → shown ≡ bytes
    → of_objects.Answers (Err fault) (catalogue_in shown) → Gives r (catalogue_by fetched)
catalogue-refused fetched bytes shown r fault passed found same h =
    subst (Gives r) (sym (catalogue-read fetched bytes shown found same))
    (passed-gives r (stop_of (fault_of_catalogue fault)) (or_faulty fault_of_catalogue (catalogue_in shown)) passed
    (catalogue-fails fault (catalogue_in shown) h))

pub catalogue-done : (fetched : Fetched) (bytes shown : List ℕ) (value : CatalogueValue) → bytes_in fetched ≡ Ok bytes
    → shown ≡ bytes → catalogue_in shown ≡ Ok value → catalogue_by fetched ≡ Ok value
catalogue-done fetched bytes shown value found same h =
    catalogue-read fetched bytes shown found same
    ∙ ap (λ (w : Result CatalogueValue CatalogueFault). or_faulty fault_of_catalogue w) h

-- ---- the table

lines-fails : (fault : TableFault) (wanted : Result (List TableLine) TableFault) → of_lines.Answers (Err fault) wanted
    → Gives {X = List TableLine} (Err (stop_of (fault_of_table fault))) (or_faulty fault_of_table wanted)
lines-fails fault wanted h = row-gives fault_of_table of_table.NoMemory fault wanted (fault_of_table fault) refl h refl

lines-is : (catalogue : CatalogueValue) (fetched : Fetched)
    → lines_by catalogue fetched ≡ (bytes_in fetched >>= λ bytes. or_faulty fault_of_table (lookup.table_in catalogue bytes))
unfolding lines_by
lines-is catalogue fetched = refl

lines-read : (catalogue : CatalogueValue) (fetched : Fetched) (bytes shown : List ℕ) → bytes_in fetched ≡ Ok bytes → shown ≡ bytes
    → lines_by catalogue fetched ≡ or_faulty fault_of_table (lookup.table_in catalogue shown)
lines-read catalogue fetched bytes shown found same =
    lines-is catalogue fetched
    ∙ ap (λ (b : Result (List ℕ) TablesFault). b >>= λ l. or_faulty fault_of_table (lookup.table_in catalogue l)) found
    ∙ ap (λ (l : List ℕ). or_faulty fault_of_table (lookup.table_in catalogue l)) (sym same)

pub lines-stopped : (catalogue : CatalogueValue) (fetched : Fetched) (r : Result (List TableLine) FileStop) (stop : FileStop)
    → IsErrAnd r (λ passed. passed ≡ stop) → Gives {X = List ℕ} (Err stop) (bytes_in fetched) → Gives r (lines_by catalogue fetched)
lines-stopped catalogue fetched r stop passed h =
    passed-gives r stop (lines_by catalogue fetched) passed
    (subst (Gives {X = List TableLine} (Err stop)) (sym (lines-is catalogue fetched))
    (stopped stop (bytes_in fetched) (λ l. or_faulty fault_of_table (lookup.table_in catalogue l)) h))

pub lines-refused : (catalogue : CatalogueValue) (fetched : Fetched) (bytes shown : List ℕ) (r : Result (List TableLine) FileStop)
    (fault : TableFault) → IsErrAnd r (λ passed. passed ≡ stop_of (fault_of_table fault)) → bytes_in fetched ≡ Ok bytes
    → shown ≡ bytes → of_lines.Answers (Err fault) (lookup.table_in catalogue shown) → Gives r (lines_by catalogue fetched)
lines-refused catalogue fetched bytes shown r fault passed found same h =
    subst (Gives r) (sym (lines-read catalogue fetched bytes shown found same))
    (passed-gives r (stop_of (fault_of_table fault)) (or_faulty fault_of_table (lookup.table_in catalogue shown)) passed
    (lines-fails fault (lookup.table_in catalogue shown) h))

pub lines-done : (catalogue : CatalogueValue) (fetched : Fetched) (bytes shown : List ℕ) (lines : List TableLine)
    → bytes_in fetched ≡ Ok bytes → shown ≡ bytes → lookup.table_in catalogue shown ≡ Ok lines → lines_by catalogue fetched ≡ Ok lines
lines-done catalogue fetched bytes shown lines found same h =
    lines-read catalogue fetched bytes shown found same
    ∙ ap (λ (w : Result (List TableLine) TableFault). or_faulty fault_of_table w) h

-- ---- both

in_file-gives : {A : Type 0} (which : ℕ) (stop : FileStop) (file : Result A TablesFault) (next : A → Result (List TableLine) TablesEnd)
    → Gives {X = A} (Err stop) file → GivesTable (Err (status_of_file which stop)) (in_file which file >>= next)
in_file-gives {A = A} which (Fault fault) file next h = ap (λ (f : Result A TablesFault). in_file which f >>= next) h
in_file-gives which ShelfFault file next h = tt
in_file-gives which NoMemory file next h = tt

last-gives : (which : ℕ) (stop : FileStop) (file : Result (List TableLine) TablesFault)
    → Gives {X = List TableLine} (Err stop) file → GivesTable (Err (status_of_file which stop)) (in_file which file)
last-gives which (Fault fault) file h = ap (λ (f : Result (List TableLine) TablesFault). in_file which f) h
last-gives which ShelfFault file h = tt
last-gives which NoMemory file h = tt

table-is : (catalogue table : Fetched)
    → table_by catalogue table ≡ (in_file 0 (catalogue_by catalogue) >>= λ value. in_file 1 (lines_by value table))
unfolding table_by
table-is catalogue table = refl

table-behind : (catalogue table : Fetched) (value : CatalogueValue) → catalogue_by catalogue ≡ Ok value
    → table_by catalogue table ≡ in_file 1 (lines_by value table)
table-behind catalogue table value found =
    table-is catalogue table
    ∙ ap (λ (c : Result CatalogueValue TablesFault). in_file 0 c >>= λ v. in_file 1 (lines_by v table)) found

status-gives : (status ended : Status) (wanted : Result (List TableLine) TablesEnd) → status ≡ ended
    → GivesTable (Err ended) wanted → GivesTable (Err status) wanted
status-gives status ended wanted e h = subst (λ (s : Status). GivesTable (Err s) wanted) (sym e) h

-- the table isn't taken
pub last-ended : (which : ℕ) (stop : FileStop) (status : Status) (file : Result (List TableLine) TablesFault)
    → status ≡ status_of_file which stop → Gives {X = List TableLine} (Err stop) file → GivesTable (Err status) (in_file which file)
last-ended which stop status file e h =
    status-gives status (status_of_file which stop) (in_file which file) e (last-gives which stop file h)

-- or it is
pub last-done : (which : ℕ) (file : Result (List TableLine) TablesFault) (lines : List TableLine) → file ≡ Ok lines → in_file which file ≡ Ok lines
last-done which file lines h = ap (λ (f : Result (List TableLine) TablesFault). in_file which f) h

-- the catalogue isn't taken
pub tables-stopped : (catalogue table : Fetched) (stop : FileStop) (status : Status) → status ≡ status_of_file 0 stop
    → Gives {X = CatalogueValue} (Err stop) (catalogue_by catalogue) → GivesTable (Err status) (table_by catalogue table)
tables-stopped catalogue table stop status e h =
    status-gives status (status_of_file 0 stop) (table_by catalogue table) e
    (subst (GivesTable (Err (status_of_file 0 stop))) (sym (table-is catalogue table))
    (in_file-gives 0 stop (catalogue_by catalogue) (λ v. in_file 1 (lines_by v table)) h))

-- ---- the files that the words name

abbrev file_at : Files → List ℕ → Fetched
file_at files name = fetched_of TABLES_LIMIT (files name)

pub words-stopped : (files : Files) (words : WordsValue) (shown : List ℕ) (stop : FileStop) (status : Status) → shown ≡ words.catalogue
    → status ≡ status_of_file 0 stop → Gives {X = CatalogueValue} (Err stop) (catalogue_by (file_at files shown))
    → GivesTable (Err status) (table_in files words)
words-stopped files words shown stop status same e h =
    tables-stopped (file_at files words.catalogue) (file_at files words.table) stop status e
    (subst (λ (name : List ℕ). Gives {X = CatalogueValue} (Err stop) (catalogue_by (file_at files name))) same h)

-- the table is fetched from the same shelf, later
pub words-behind : (tells : Bool) (files files' : Files) (words : WordsValue) (shown shown' : List ℕ) (value : CatalogueValue)
    (r : Result (List TableLine) Status) → shown ≡ words.catalogue → shown' ≡ words.table → (IsTrue tells → files' ≡ files)
    → (IsTrue tells → catalogue_by (file_at files shown) ≡ Ok value)
    → (IsTrue tells → GivesTable r (in_file 1 (lines_by value (file_at files' shown'))))
    → IsTrue tells → GivesTable r (table_in files words)
words-behind tells files files' words shown shown' value r same same' kept found h t =
    subst (GivesTable r)
    (sym (table-behind (file_at files words.catalogue) (file_at files words.table) value
    (ap (λ (name : List ℕ). catalogue_by (file_at files name)) (sym same) ∙ found t)))
    (subst (λ (name : List ℕ). GivesTable r (in_file 1 (lines_by value (file_at files name)))) same'
    (subst (λ (fs : Files). GivesTable r (in_file 1 (lines_by value (file_at fs shown')))) (kept t) (h t)))

-- ---- how the run ends

-- a stop is the shelf's fault where the run ends with that
failed-by : {A P : Type 0} (which : ℕ) (stop : FileStop) → (IsErrOf {T = A} (Err stop) ShelfFault → P)
    → status_of_file which stop ≡ ends.ShelfFault → P
failed-by which (Fault fault) cause failed = absurd (let f : ends.Tables which fault ≡ ends.ShelfFault = failed in cc)
failed-by which ShelfFault cause failed = cause refl
failed-by which NoMemory cause failed = absurd (let f : ends.NoMemory ≡ ends.ShelfFault = failed in cc)

same-status : {A : Type 0} (x y : Status) → ◌≡◌ {A = Result A Status} (Err x) (Err y) → x ≡ y
same-status x y e = cc

pub ended-failed : {A B P : Type 0} (which : ℕ) (stop : FileStop) (status : Status) → status ≡ status_of_file which stop
    → (IsErrOf {T = A} (Err stop) ShelfFault → P) → IsErrOf {T = B} (Err status) ends.ShelfFault → P
ended-failed {B = B} which stop status e cause failed =
    failed-by which stop cause (sym e ∙ same-status {A = B} status ends.ShelfFault failed)
