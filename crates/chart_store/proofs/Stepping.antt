-- A staged file with some changes more.
use Rattle.std.proofs.Common.{◌≡◌, ◌≢◌, ℕ, ◌+◌, ◌-◌, min, List, [], length, take}
use Rattle.std.proofs.Common.{Option, Some, None, IfSome, IfErr, IsOk, IsErr, IsErrAnd, Result, Ok, Err, refl, sym, ◌∙◌, ap, subst, arith}
use Rattle.std.proofs.Common.{inl, inr}
use Rattle.std.proofs.Math.Nat.{min-eq_left, min-eq_right}
use Rattle.std.proofs.lemmas.Bool.{cases_lt}
use Rattle.std.proofs.lemmas.List.{length-drop, take_all}
use Rattle.std.specs.Prelude.{unwrap_or}
use Rattle.chart_model.specs.Answers.{◌>>=◌}
use Rattle.chart_model.specs.Cell.{CellValue}
use Rattle.chart_model.specs.Dataset.{DatasetValue, IsDataset}
use Rattle.chart_model.specs.declared.state.Held.{Held}
use Rattle.update_sequence.specs.Reading.{data_set_in}
use Rattle.update_sequence.specs.Built.{begun, folded}
use Rattle.update_sequence.specs.Draft.{Advances, DraftValue, first_draft}
use Rattle.update_sequence.specs.declared.fault.BuildFault.{BuildFault}
use Rattle.update_sequence.specs.declared.effect.Effect.TheVariants.{Cancel}
use Rattle.update_sequence.specs.declared.fault.BuildFault.TheVariants as of_build
use Rattle.update_sequence.specs.declared.fault.ReadFault.{ReadFault}
use Rattle.chart_store.specs.declared.fault.TakeFault.{TakeFault}
use Rattle.chart_store.specs.declared.fault.TakeFault.TheVariants as takes
use Rattle.chart_store.specs.declared.refusal.Refusal.{Refusal}
use Rattle.chart_store.specs.declared.refusal.Refusal.TheVariants as refuses
use Rattle.chart_store.specs.declared.work.Work.{Work}
use Rattle.chart_store.specs.Begun.{IsDraftOf, IsStoppedAt, IsWorkOf}
use Rattle.chart_store.proofs.Judging.{effect_says}
use Rattle.chart_store.specs.Fault.{fault_of, or_refused}
use Rattle.chart_store.specs.Refusal.{refusal_of_build}
use Rattle.chart_store.specs.Staging.{IsStopped, StagedValue, changes_in, changes_of, chart_below, key_in, key_of, made_of, made_to}
use Rattle.chart_store.specs.Staging.{step_of, stepped}
use Rattle.chart_store.proofs.Drafting.{InTurn, folded-on, folded-stays, take-over}

-- what the file says
pub changes-are : (file : List ℕ) (dataset : DatasetValue) → data_set_in file ≡ Ok dataset →
    changes_in file ≡ dataset.changes
changes-are file dataset reads = ap changes_of reads

pub key-is : (file : List ℕ) (dataset : DatasetValue) → data_set_in file ≡ Ok dataset →
    key_in file ≡ dataset.header.key
key-is file dataset reads = ap key_of reads

-- changes of one call and those of the next are made in turn
abbrev pub More : Type 0
More = (one two three : DraftValue) (made more : ℕ) → Advances one two made → Advances two three more →
    Advances one three (made + more)

module _ (turn : InTurn) (more : More) (file : List ℕ) (held : Option Held) (chart : Option CellValue) (dataset : DatasetValue)
    (reads : data_set_in file ≡ Ok dataset) where
  abbrev pub value : ℕ → StagedValue
  value done = record { file = file; held = held; chart = chart; done = done }

  -- the chart before the first change
  abbrev first : CellValue
  first = begun (chart_below chart dataset) dataset.header

  made-is : (done n : ℕ) → made_to (value done) n ≡ folded first (take n dataset.changes)
  made-is done n = ap (λ (r : Result DatasetValue ReadFault). made_of chart n r) reads

  -- what a draft has made
  pub made-done : (done : ℕ) (draft : DraftValue) → IsDraftOf chart dataset done draft →
      made_to (value done) done ≡ Ok draft.cell
  made-done done draft is = made-is done done ∙ is.chart

  left-is : (done : ℕ) (draft : DraftValue) → IsDraftOf chart dataset done draft →
      length dataset.changes ≡ done + length draft.rest
  left-is done draft is =
      let left : length draft.rest ≡ length dataset.changes - done =
      ap length is.rest ∙ length-drop done dataset.changes in
      omega (arith, left, is.within)

  -- some more, or all that are left
  made-more : (done n : ℕ) (draft after : DraftValue) → IsDraftOf chart dataset done draft →
      Advances draft after (min n (length draft.rest)) → folded first (take (done + n) dataset.changes) ≡ Ok after.cell
  made-more done n draft after is made =
      elim (cases_lt n (length draft.rest)) [
        | inl fewer ↦
            let m : Advances draft after n =
            subst (λ (k : ℕ). Advances draft after k) (min-eq_left (omega (arith, fewer))) made in
            folded-on turn first draft.cell dataset.changes draft.rest done n is.chart is.rest ∙ m.chart
        | inr over ↦
            let m : Advances draft after (length draft.rest) =
            subst (λ (k : ℕ). Advances draft after k) (min-eq_right over) made in
            let all = left-is done draft is in
            ap (folded first) (take-over dataset.changes (done + n) (done + length draft.rest) (omega (arith, all, over))
            (omega (arith, all)))
            ∙ folded-on turn first draft.cell dataset.changes draft.rest done (length draft.rest) is.chart is.rest ∙ m.chart
      ]

  done-is : (done n : ℕ) (draft : DraftValue) → IsDraftOf chart dataset done draft →
      min (done + n) (length (changes_in file)) ≡ done + min n (length draft.rest)
  done-is done n draft is =
      let all : length (changes_in file) ≡ done + length draft.rest =
      ap length (changes-are file dataset reads) ∙ left-is done draft is in
      elim (cases_lt n (length draft.rest)) [
        | inl fewer ↦
            let k : min n (length draft.rest) ≡ n = min-eq_left (omega (arith, fewer)) in
            let l : min (done + n) (length (changes_in file)) ≡ done + n = min-eq_left (omega (arith, all, fewer)) in
            omega (arith, k, l)
        | inr over ↦
            let k : min n (length draft.rest) ≡ length draft.rest = min-eq_right over in
            let l : min (done + n) (length (changes_in file)) ≡ length (changes_in file) =
            min-eq_right (omega (arith, all, over)) in
            omega (arith, k, l, all)
      ]

  pub step-made : (done n now : ℕ) (draft after : DraftValue) → IsDraftOf chart dataset done draft →
      Advances draft after (min n (length draft.rest)) → now ≡ done + min n (length draft.rest) →
      step_of n (value done) ≡ Ok (value now)
  step-made done n now draft after is made counts =
      ap (λ (r : Result CellValue BuildFault). or_refused refusal_of_build r >>= λ cell. Ok (stepped n (value done)))
      (made-is done (done + n) ∙ made-more done n draft after is made)
      ∙ ap (λ (d : ℕ). Ok (value d)) (done-is done n draft is ∙ sym counts)

  -- where one can't be made
  next-fails : (done made n : ℕ) (fault : BuildFault) (draft after : DraftValue) → IsDraftOf chart dataset done draft →
      IsStoppedAt made n fault draft after → folded first (take (done + made + 1) dataset.changes) ≡ Err fault
  next-fails done made n fault draft after is stops =
      let now = more (first_draft (chart_below chart dataset) dataset) draft after done made is stops.advances in
      folded-on turn first after.cell dataset.changes after.rest (done + made) 1 now.chart now.rest ∙ stops.next

  all-fail : (done made n : ℕ) (fault : BuildFault) (draft after : DraftValue) → IsDraftOf chart dataset done draft →
      IsStoppedAt made n fault draft after → folded first (take (done + n) dataset.changes) ≡ Err fault
  all-fail done made n fault draft after is stops =
      let sum : done + made + 1 + (n - made - 1) ≡ done + n = omega (arith, stops.fewer) in
      subst (λ (k : ℕ). folded first (take k dataset.changes) ≡ Err fault) sum
      (folded-stays turn first dataset.changes (done + made + 1) (n - made - 1) fault
      (next-fails done made n fault draft after is stops))

  pub step-fails : (done made n : ℕ) (fault : BuildFault) (refusal : Refusal) (draft after : DraftValue) →
      IsDraftOf chart dataset done draft → IsStoppedAt made n fault draft after →
      fault_of (refusal_of_build fault) ≡ takes.Refused refusal → step_of n (value done) ≡ Err refusal
  step-fails done made n fault refusal draft after is stops tells =
      ap (λ (r : Result CellValue BuildFault). or_refused refusal_of_build r >>= λ cell. Ok (stepped n (value done)))
      (made-is done (done + n) ∙ all-fail done made n fault draft after is stops)
      ∙ ap Err (told_is (refusal_of_build fault) tells)
    where
      told_is : (told : Option Refusal) → fault_of told ≡ takes.Refused refusal → unwrap_or told refuses.NoGeneral ≡ refusal
      told_is None e = absurd cc
      told_is (Some other) e = cc

  pub step-stops : (done made n now : ℕ) (fault : BuildFault) (draft after : DraftValue) →
      IsDraftOf chart dataset done draft → IsStoppedAt made n fault draft after → now ≡ done + made →
      IsStopped (value now)
  step-stops done made n now fault draft after is stops counts =
      subst (λ (d : ℕ). IsStopped (value d)) (sym counts) (record {
        made = ok_is (made-is (done + made) (done + made)
            ∙ (more (first_draft (chart_below chart dataset) dataset) draft after done made is stops.advances).chart);
        next = err_is (made-is (done + made) (done + made + 1) ∙ next-fails done made n fault draft after is stops);
      })
    where
      ok_is : {r : Result CellValue BuildFault} {x : CellValue} → r ≡ Ok x → IsOk r
      ok_is e = subst IsOk (sym e) refl

      err_is : {r : Result CellValue BuildFault} {x : BuildFault} → r ≡ Err x → IsErr r
      err_is e = subst IsErr (sym e) refl

  -- no change is made where there is none
  pub step-none : ((cell : CellValue) → folded cell [] ≡ Ok cell) → (done n : ℕ) → dataset.changes ≡ [] → done ≡ 0 →
      step_of n (value done) ≡ Ok (value done)
  step-none law done n none zero_done =
      let empty : length dataset.changes ≡ 0 = ap length none in
      let seen : length (changes_in file) ≡ 0 = ap length (changes-are file dataset reads) ∙ empty in
      let least : min (done + n) (length (changes_in file)) ≡ length (changes_in file) =
      min-eq_right (omega (arith, seen)) in
      let same : min (done + n) (length (changes_in file)) ≡ done = omega (arith, least, seen, zero_done) in
      ap (λ (r : Result CellValue BuildFault). or_refused refusal_of_build r >>= λ cell. Ok (stepped n (value done)))
      (made-is done (done + n)
      ∙ ap (folded first) (take_all (done + n) dataset.changes (omega (arith, empty)) ∙ none) ∙ law first)
      ∙ ap (λ (d : ℕ). Ok (value d)) same

-- ---- the work

draft-there : (P : DraftValue → Type 0) (found : Option DraftValue) (draft : DraftValue) → found ≡ Some draft →
    IfSome found P → P draft
draft-there P found draft is holds = subst (λ (d : Option DraftValue). IfSome d P) is holds

pub draft-of : (work : Work) (file : List ℕ) (is : IsWorkOf file work) (draft : DraftValue) →
    work.begun.draft ≡ Some draft → IsDraftOf work.chart is.dataset work.done draft
draft-of work file is draft found =
    draft-there (IsDraftOf work.chart is.dataset work.done) work.begun.draft draft found is.begun.draft

pub left-within : (work : Work) (file : List ℕ) (is : IsWorkOf file work) (draft : DraftValue) →
    IsDraftOf work.chart is.dataset work.done draft → work.done + length draft.rest ≡ work.total
left-within work file is draft of =
    let left : length draft.rest ≡ length is.dataset.changes - work.done =
    ap length of.rest ∙ length-drop work.done is.dataset.changes in
    omega (arith, left, of.within, is.total)

pub work-more : More → (file : List ℕ) (work : Work) (is : IsWorkOf file work) (made now : ℕ) (before after : DraftValue) →
    IsDraftOf work.chart is.dataset work.done before → Advances before after made → now ≡ work.done + made →
    IsWorkOf file (record {
      header = work.header;
      before = work.before;
      chart = work.chart;
      effect = work.effect;
      begun = record { draft = Some after; targets = work.begun.targets };
      total = work.total;
      done = now;
    })
work-more more file work is made now before after of advances counts =
    let on = more (first_draft (chart_below work.chart is.dataset) is.dataset) before after work.done made of advances in
    record {
      dataset = is.dataset;
      short = is.short;
      reads = is.reads;
      header = is.header;
      judges = is.judges;
      total = is.total;
      fits = is.fits;
      within = omega (arith, on.within, counts, is.total);
      begun = record {
        may = is.begun.may;
        draft = subst (λ (d : ℕ). IsDraftOf work.chart is.dataset d after) (sym counts) on;
        update = is.begun.update;
        targets = is.begun.targets;
      };
    }

-- a file that cancels its cell has no changes
pub cancels-none : (work : Work) (file : List ℕ) (is : IsWorkOf file work) → IsDataset is.dataset → work.effect ≡ Cancel →
    is.dataset.changes ≡ []
cancels-none work file is kept cancels =
    let says = effect_says work.before is.dataset Cancel (is.judges ∙ ap Ok cancels) in kept.no_changes says.cancels

-- ---- by what the calls ensure

-- a fault that tells a refusal isn't want of memory
pub not-memory : (fault : BuildFault) (refusal : Refusal) → fault_of (refusal_of_build fault) ≡ takes.Refused refusal →
    fault ≢ of_build.NoMemory
not-memory fault refusal tells same =
    absurd (let e : takes.NoMemory ≡ takes.Refused refusal =
    sym (ap (λ (f : BuildFault). fault_of (refusal_of_build f)) same) ∙ tells in cc)

pub stops-as : (r : Result (Unit {0}) TakeFault) (fault : BuildFault) (P : Refusal → Type 0) →
    IsErrAnd r (λ told. told ≡ fault_of (refusal_of_build fault)) →
    ((refusal : Refusal) → fault_of (refusal_of_build fault) ≡ takes.Refused refusal → P refusal) →
    IfErr r (λ told. (refusal : Refusal) → told ≡ takes.Refused refusal → P refusal)
stops-as (Ok done) fault P e holds = absurd e
stops-as (Err told) fault P e holds = λ refusal is. holds refusal (sym e ∙ is)
