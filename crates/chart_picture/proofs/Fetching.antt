-- Files that are fetched and read, one after the other.
use Rattle.std.proofs.Common.{◌≡◌, ◌≢◌, ℕ, ◌≤◌, Bool, Result, Ok, Err, refl, sym, ◌∙◌, ap, subst, inl, inr, arith}
use Rattle.std.specs.Prelude.{List, IsErrAnd, IsErrOf, IsTrue, IfErr}
use Rattle.chart_model.specs.Answers.{◌>>=◌}
use Rattle.chart_ports.specs.Count.{Rose}
use Rattle.chart_ports.specs.Fetched.{fetched_of}
use Rattle.chart_ports.specs.declared.shelf.Fetched.{Fetched}
use Rattle.chart_ports.specs.declared.shelf.ShelfError.{ShelfError}
use Rattle.chart_ports.specs.declared.shelf.ShelfError.TheVariants as of_shelf
use Rattle.session_core.specs.Fetch.{Files}
use Rattle.chart_picture.specs.End.{Gives, end_of_shelf, ends_fetching, told}
use Rattle.chart_picture.specs.Fetching.{IsFetched, IsRead}
use Rattle.chart_picture.specs.declared.run.end.End.{End}
use Rattle.chart_picture.specs.declared.run.end.End.TheVariants.{NoMemory, ShelfFault}
use Rattle.chart_picture.proofs.Ends.{passed-is, reading-fetching, reading-steady, same-end, same-err, told-up}

pub rose-later : (before mid now : ℕ) → before ≤ mid → Rose mid now → Rose before now
rose-later before mid now le (inl rose) = inl (omega arith)
rose-later before mid now le (inr last) = inr last

-- ---- answers that are no fault of the shelf

read-gives : {A : Type 0} (r : Result A End) (a b : Result A End) → a ≡ b → Gives r b → Gives r a
read-gives {A = A} r a b e h = subst (λ (w : Result A End). Gives r w) (sym e) h

read-ends : {A : Type 0} (r wanted : Result A End) → IsRead r wanted → IfErr r (λ end. IsTrue (ends_fetching end))
read-ends (Ok x) wanted h = tt
read-ends (Err end) wanted h = reading-fetching end h.ends

read-steady : {A : Type 0} (r wanted : Result A End) → IsRead r wanted → r ≢ Err ShelfFault
read-steady (Ok x) wanted h is = cc
read-steady {A = A} (Err end) wanted h is = reading-steady end h.ends (same-end {A = A} end ShelfFault is)

pub done-read : {A : Type 0} (x : A) (wanted : Result A End) → wanted ≡ Ok x → IsRead (Ok x) wanted
done-read x wanted is = record { read = is; ends = tt }

module _ {L : Type 0} (tells : Bool) (files : L → Files) (faults : L → ℕ) where
  -- what is fetched is read
  pub then-read : {A B : Type 0} (before now : L) (wanted : Files → Result A End) (next : A → Result B End) (x : A)
      (r : Result B End) → IsFetched tells files faults before now (Ok x) wanted → IsRead r (next x)
      → IsFetched tells files faults before now r (λ fs. wanted fs >>= next)
  then-read {A = A} before now wanted next x r h is = record {
    found = λ t. read-gives r _ _ (ap (λ (w : Result A End). w >>= next) (h.found t)) is.read;
    ends = read-ends r (next x) is;
    failed = λ f. absurd (read-steady r (next x) is f);
    files_stay = h.files_stay;
    later = h.later;
  }

  -- what isn't fetched is not read
  pub stop : {A B : Type 0} (before now : L) (wanted : Files → Result A End) (next : Files → A → Result B End) (end : End)
      (r : Result B End) → IsErrAnd r (λ passed. passed ≡ end) → IsFetched tells files faults before now (Err end) wanted
      → IsFetched tells files faults before now r (λ fs. wanted fs >>= next fs)
  stop {A = A} {B = B} before now wanted next end r passed h =
      subst (λ (q : Result B End). IsFetched tells files faults before now q (λ fs. wanted fs >>= next fs)) (sym (passed-is r end passed))
      (record {
        found = λ t. told-up (told end) (wanted (files before)) (next (files before)) (h.found t);
        ends = h.ends;
        failed = λ f. h.failed (same-err A end ShelfFault (same-end {A = B} end ShelfFault f));
        files_stay = h.files_stay;
        later = h.later;
      })

  -- a fetch after another
  pub then-fetch : {A B : Type 0} (before mid now : L) (wanted : Files → Result A End) (next : Files → A → Result B End)
      (x : A) (r : Result B End) → IsFetched tells files faults before mid (Ok x) wanted
      → IsFetched tells files faults mid now r (λ fs. next fs x)
      → IsFetched tells files faults before now r (λ fs. wanted fs >>= next fs)
  then-fetch {A = A} before mid now wanted next x r h k = record {
    found = λ t.
        read-gives r _ _
        (ap (λ (w : Result A End). w >>= next (files before)) (h.found t)
        ∙ ap (λ (fs : Files). next fs x) (sym (h.files_stay t)))
        (k.found t);
    ends = k.ends;
    failed = λ f. rose-later (faults before) (faults mid) (faults now) h.later (k.failed f);
    files_stay = λ t. k.files_stay t ∙ h.files_stay t;
    later = let first = h.later in let second = k.later in omega arith;
  }

  -- memory runs out after a fetch
  pub no-memory : {A B : Type 0} (before now : L) (fetched : Result A End) (wanted : Files → Result A End)
      (other : Files → Result B End) (r : Result B End) → IsFetched tells files faults before now fetched wanted
      → IsErrAnd r (λ passed. passed ≡ NoMemory) → IsFetched tells files faults before now r other
  no-memory {B = B} before now fetched wanted other r h passed =
      subst (λ (q : Result B End). IsFetched tells files faults before now q other) (sym (passed-is r NoMemory passed))
      (record {
        found = λ t. tt;
        ends = refl;
        failed = λ f. absurd (let e : NoMemory ≡ ShelfFault = same-end {A = B} NoMemory ShelfFault f in cc);
        files_stay = h.files_stay;
        later = h.later;
      })

  -- the same of a name that is shown
  pub named : {A N : Type 0} (before now : L) (answer : Result A End) (wanted : N → Files → Result A End)
      (shown name : N) → shown ≡ name → IsFetched tells files faults before now answer (wanted shown)
      → IsFetched tells files faults before now answer (wanted name)
  named {N = N} before now answer wanted shown name is h =
      subst (λ (text : N). IsFetched tells files faults before now answer (wanted text)) is h

  -- the same where what is wanted is told in other words
  pub reworded : {A : Type 0} (before now : L) (answer : Result A End) (wanted other : Files → Result A End)
      → ((fs : Files) → other fs ≡ wanted fs) → IsFetched tells files faults before now answer wanted
      → IsFetched tells files faults before now answer other
  reworded before now answer wanted other is h = record {
    found = λ t. read-gives answer (other (files before)) (wanted (files before)) (is (files before)) (h.found t);
    ends = h.ends;
    failed = h.failed;
    files_stay = h.files_stay;
    later = h.later;
  }

  -- nothing is fetched
  pub still : {A : Type 0} (here : L) (wanted : Files → Result A End) (x : A) → ((fs : Files) → wanted fs ≡ Ok x)
      → IsFetched tells files faults here here (Ok x) wanted
  still {A = A} here wanted x is = record {
    found = λ t. is (files here);
    ends = tt;
    failed = λ f. absurd cc;
    files_stay = λ t. refl;
    later = omega arith;
  }

  -- ---- the shelf's own answer

  -- what a shelf answers is read
  pub fetch-read : {A : Type 0} (before now : L) (limit : ℕ) (name : List ℕ) (fetched : Fetched) (next : Fetched → Result A End)
      (r : Result A End) → (IsTrue tells → fetched ≡ fetched_of limit (files before name))
      → (IsTrue tells → files now ≡ files before) → faults before ≤ faults now → IsRead r (next fetched)
      → IsFetched tells files faults before now r (λ fs. next (fetched_of limit (fs name)))
  fetch-read before now limit name fetched next r found stay late is = record {
    found = λ t. read-gives r _ _ (ap next (sym (found t))) is.read;
    ends = read-ends r (next fetched) is;
    failed = λ f. absurd (read-steady r (next fetched) is f);
    files_stay = stay;
    later = late;
  }

  -- a shelf doesn't answer
  pub fetch-stop : {A T : Type 0} (before now : L) (error : ShelfError) (wanted : Files → Result A End) (r : Result A End)
      → IsErrAnd r (λ passed. passed ≡ end_of_shelf error) → (IsTrue tells → files now ≡ files before) → faults before ≤ faults now
      → (IsErrOf {T = T} (Err error) of_shelf.Failed → Rose (faults before) (faults now))
      → IsFetched tells files faults before now r wanted
  fetch-stop {A = A} before now of_shelf.Failed wanted r passed stay late cause =
      subst (λ (q : Result A End). IsFetched tells files faults before now q wanted) (sym (passed-is r ShelfFault passed))
      (record { found = λ t. tt; ends = refl; failed = λ f. cause refl; files_stay = stay; later = late })
  fetch-stop {A = A} before now of_shelf.NoMemory wanted r passed stay late cause =
      subst (λ (q : Result A End). IsFetched tells files faults before now q wanted) (sym (passed-is r NoMemory passed))
      (record {
        found = λ t. tt;
        ends = refl;
        failed = λ f. absurd (let e : NoMemory ≡ ShelfFault = same-end {A = A} NoMemory ShelfFault f in cc);
        files_stay = stay;
        later = late;
      })
