-- A file that is accepted, and what is held then.
use Rattle.std.proofs.Common.{◌≡◌, ◌≢◌, ℕ, ◌<◌, ◌≤◌, Bool, true, false, cond, List, length, leb, Option, Some, None}
use Rattle.std.proofs.Common.{Result, Ok, Err, refl, sym, ◌∙◌, ap, subst, arith, inl, inr}
use Rattle.std.proofs.lemmas.Bool.{cases_Bool}
use Rattle.std.proofs.lemmas.Bool.Decides.{nat_tests}
use Rattle.std.specs.declared.cmp.Ordering.{Ordering}
use Rattle.std.specs.declared.cmp.Ordering.TheVariants.{Less, Equal, Greater}
use Rattle.std.specs.Ordering.{is_eq, eq_by_cmp}
use Rattle.std.specs.FinMap as map
use Rattle.chart_model.specs.Answers.{◌>>=◌, or_fault_as}
use Rattle.chart_model.specs.Cell.{CellValue}
use Rattle.chart_model.specs.Dataset.{DatasetValue}
use Rattle.chart_model.specs.Keys.{key_cmp}
use Rattle.chart_model.specs.State.{StateValue, IsFileLength}
use Rattle.chart_model.specs.declared.state.Holding.{Holding}
use Rattle.chart_model.proofs.Keys.{key_cmp-total, key_cmp-IsAntisymmetric}
use Rattle.iso8211_records.specs.RecordFile.{data_records_in}
use Rattle.update_sequence.specs.Reading.{data_set_in, tags_read}
use Rattle.update_sequence.specs.Judged.{judged}
use Rattle.update_sequence.specs.Built.{built}
use Rattle.update_sequence.specs.declared.effect.Effect.{Effect}
use Rattle.update_sequence.specs.declared.effect.Effect.TheVariants.{Replace, Extend, Cancel}
use Rattle.update_sequence.specs.declared.fault.ReadFault.{ReadFault}
use Rattle.chart_store.specs.declared.refusal.Refusal.{Refusal}
use Rattle.chart_store.specs.declared.refusal.Refusal.TheVariants.{FileLong, StoreFull}
use Rattle.chart_store.specs.Refusal.{refusal_of_read, refusal_of_sequence, refusal_of_build}
use Rattle.chart_store.specs.Fault.{or_refused}
use Rattle.chart_store.specs.Loaded.{HoldingsByKey, files_of}
use Rattle.chart_store.specs.Loaded.{FILE_LIMIT, STORE_LIMIT, live_bytes, store_within, within_limit, cells_within, come_to}
use Rattle.chart_store.specs.ByFiles.{accepted_file, loaded_by_files}
use Rattle.chart_store.specs.Loaded.{Outcome, loaded}
use Rattle.chart_store.specs.Live.{IsLive, AreLive}
use Rattle.chart_store.specs.Loaded.{held_of, chart_of, held_after, chart_after, cell_after, cell_by, state_by_effect}
use Rattle.chart_store.specs.Loaded.{outcome_of_data_set}
use Rattle.chart_store.proofs.Holdings.{AreLive-insert}
use Rattle.chart_store.proofs.Loading.{Laws, WasLive, live-replace, live-extend, live-cancel, accepted-data_set}

-- ---- steps

-- a bound value
bound_is : {A B : Type 0} (r : Result A Refusal) (next : A → Result B Refusal) (y : B) → (r >>= next) ≡ Ok y →
    (x : A) × (r ≡ Ok x) × (next x ≡ Ok y)
bound_is (Ok x) next y e = (x, refl, e)
bound_is (Err refusal) next y e = absurd cc

ok_is : {A E : Type 0} {x y : A} → ◌≡◌ {A = Result A E} (Ok x) (Ok y) → x ≡ y
ok_is e = cc

refused_is : {A E : Type 0} (refusal : E → Option Refusal) (r : Result A E) (x : A) → or_refused refusal r ≡ Ok x →
    r ≡ Ok x
refused_is refusal (Ok y) x e = ap Ok (ok_is e)
refused_is refusal (Err fault) x e = absurd cc

fault_is : {A E : Type 0} (refusal : E → Refusal) (r : Result A E) (x : A) → or_fault_as refusal r ≡ Ok x → r ≡ Ok x
fault_is refusal (Ok y) x e = ap Ok (ok_is e)
fault_is refusal (Err fault) x e = absurd cc

-- ---- the limits

pub within-short : (file : List ℕ) → length file ≤ FILE_LIMIT → within_limit file ≡ Ok file
within-short file short =
    ap (λ (b : Bool). cond b (Ok file) (Err (FileLong FILE_LIMIT)))
    (let fits : leb (length file) FILE_LIMIT ≡ true = grind (arith, nat_tests) in fits)

pub within-long : (file : List ℕ) → FILE_LIMIT < length file → within_limit file ≡ Err (FileLong FILE_LIMIT)
within-long file long =
    ap (λ (b : Bool). cond b (Ok file) (Err (FileLong FILE_LIMIT)))
    (let passes : leb (length file) FILE_LIMIT ≡ false = grind (arith, nat_tests) in passes)

within-is : (file bytes : List ℕ) → within_limit file ≡ Ok bytes → (file ≡ bytes) × (length file ≤ FILE_LIMIT)
within-is file bytes e =
    elim (cases_Bool (leb (length file) FILE_LIMIT)) [
      | inl is_so ↦ (
        ok_is (sym (ap (λ (b : Bool). cond b (Ok file) (Err (FileLong FILE_LIMIT))) is_so) ∙ e),
        grind (arith, nat_tests, is_so),
      )
      | inr is_not ↦ absurd (let f = sym (ap (λ (b : Bool). cond b (Ok file) (Err (FileLong FILE_LIMIT))) is_not) ∙ e
          in cc)
    ]

store_within-is : (cells : HoldingsByKey) (after : StateValue) → store_within cells ≡ Ok after →
    record { cells = cells } ≡ after
store_within-is cells after e = go (leb (live_bytes cells) STORE_LIMIT) e
  where
    go : (b : Bool) → cond b (Ok (record { cells = cells })) (Err (StoreFull (live_bytes cells))) ≡ Ok after →
        record { cells = cells } ≡ after
    go true e = ok_is e
    go false e = absurd cc

-- ---- what a file is that is accepted

-- a file that was accepted is a data set, and its cell alone is put in
pub record IsLoaded (state : StateValue) (file : List ℕ) (done : Outcome) : Type 0 where
  pub dataset : DatasetValue
  pub short : IsFileLength (length file)
  pub reads : data_set_in file ≡ Ok dataset
  pub accepts : outcome_of_data_set state dataset file (map.get state.cells dataset.header.key) ≡ Ok done

pub loaded-is : (state : StateValue) (file : List ℕ) (done : Outcome) → loaded state file ≡ Ok done →
    IsLoaded state file done
unfolding loaded
loaded-is state file done e =
    let b = bound_is (within_limit file) _ done e in
    let w = within-is file b.0 b.1 in
    let r = bound_is (or_refused refusal_of_read (data_set_in b.0)) _ done b.2 in
    record {
      dataset = r.0;
      short = w.1;
      reads = ap data_set_in w.0 ∙ refused_is refusal_of_read (data_set_in b.0) r.0 r.1;
      accepts = ap (λ (l : List ℕ). outcome_of_data_set state r.0 l (map.get state.cells r.0.header.key)) w.0 ∙ r.2;
    }

pub record IsPut (state : StateValue) (dataset : DatasetValue) (done : Outcome) : Type 0 where
  pub here : Holding
  pub keyed : dataset.header.key ≡ done.key
  pub cells : map.insert state.cells dataset.header.key here ≡ done.state.cells

-- what is put in, with the effect that the file had, and the chart that it left
record IsTaken (state : StateValue) (dataset : DatasetValue) (file : List ℕ) (before : Option Holding) (done : Outcome)
    : Type 0 where
  effect : Effect
  chart : Option CellValue
  judges : judged (held_of before) dataset ≡ Ok effect
  builds : chart_after (chart_of before) effect dataset ≡ Ok chart
  keyed : dataset.header.key ≡ done.key
  cells : map.insert state.cells dataset.header.key (cell_by before effect dataset.header chart file) ≡ done.state.cells

taken-is : (state : StateValue) (dataset : DatasetValue) (file : List ℕ) (before : Option Holding) (done : Outcome) →
    outcome_of_data_set state dataset file before ≡ Ok done → IsTaken state dataset file before done
taken-is state dataset file before done e =
    let j = bound_is (or_fault_as refusal_of_sequence (judged (held_of before) dataset)) _ done e in
    let w = bound_is (cells_within state.cells dataset.header.key) _ done j.2 in
    let p = bound_is (state_by_effect state dataset file before j.0) _ done w.2 in
    let c = bound_is (chart_after (chart_of before) j.0 dataset) _ p.0 p.1 in
    record {
      effect = j.0;
      chart = c.0;
      judges = fault_is refusal_of_sequence (judged (held_of before) dataset) j.0 j.1;
      builds = c.1;
      keyed = ap (λ (d : Outcome). d.key) (ok_is p.2);
      cells = ap (λ (s : StateValue). s.cells) (store_within-is _ p.0 c.2)
          ∙ ap (λ (d : Outcome). d.state.cells) (ok_is p.2);
    }

pub accepted-is : (state : StateValue) (dataset : DatasetValue) (file : List ℕ) (before : Option Holding)
    (done : Outcome) → outcome_of_data_set state dataset file before ≡ Ok done → IsPut state dataset done
accepted-is state dataset file before done e =
    let t = taken-is state dataset file before done e in
    record { here = cell_by before t.effect dataset.header t.chart file; keyed = t.keyed; cells = t.cells }

-- ---- another key

pub apart : (q key : List ℕ) → q ≢ key → eq_by_cmp key_cmp q key ≡ false
apart q key other = elim (cases_Bool (eq_by_cmp key_cmp q key)) [
  | inl is_so ↦ absurd (other (key_cmp-IsAntisymmetric q key (tied (key_cmp q key) is_so)))
  | inr is_not ↦ is_not
]
  where
    tied : (r : Ordering) → is_eq r ≡ true → r ≡ Equal
    tied Less e = absurd (let f : false ≡ true = e in cc)
    tied Equal e = refl
    tied Greater e = absurd (let f : false ≡ true = e in cc)

pub loaded-alone : (state : StateValue) (file : List ℕ) (done : Outcome) (key : List ℕ) →
    loaded state file ≡ Ok done → key ≢ done.key → map.get done.state.cells key ≡ map.get state.cells key
loaded-alone state file done key e other =
    let l = loaded-is state file done e in
    let p = accepted-is state l.dataset file _ done l.accepts in
    ap (λ (m : HoldingsByKey). map.get m key) (sym p.cells)
    ∙ map.get-insert key_cmp-total state.cells l.dataset.header.key p.here key
    ∙ ap (λ (b : Bool). cond b (Some p.here) (map.get state.cells key))
    (apart key l.dataset.header.key (λ same. other (same ∙ p.keyed)))

-- ---- the step by what is held of the cell

pub loaded-reads : (state : StateValue) (file : List ℕ) (dataset : DatasetValue) → length file ≤ FILE_LIMIT →
    data_set_in file ≡ Ok dataset →
    loaded state file ≡ outcome_of_data_set state dataset file (map.get state.cells dataset.header.key)
unfolding loaded
loaded-reads state file dataset short reads =
    ap (λ (r : Result (List ℕ) Refusal). r >>= λ bytes. or_refused refusal_of_read (data_set_in bytes) >>= λ ds.
    outcome_of_data_set state ds bytes (map.get state.cells ds.header.key)) (within-short file short)
    ∙ ap (λ (r : Result DatasetValue ReadFault). or_refused refusal_of_read r >>= λ ds. outcome_of_data_set state ds file
    (map.get state.cells ds.header.key)) reads

module _ (laws : Laws) where
  pub next-live : (before : Option Holding) (dataset : DatasetValue) (file : List ℕ) (effect : Effect)
      (chart : Option CellValue) → WasLive dataset.header.key before → data_set_in file ≡ Ok dataset →
      IsFileLength (length file) → judged (held_of before) dataset ≡ Ok effect →
      chart_after (chart_of before) effect dataset ≡ Ok chart →
      IsLive dataset.header.key (cell_after before effect (held_after before effect dataset.header) chart file)
  next-live before dataset file Replace chart h reads short judges e =
      let b = bound_is (or_refused refusal_of_build (built None dataset)) _ chart e in
      subst (λ (c : Option CellValue). IsLive dataset.header.key (cell_after before Replace
      (held_after before Replace dataset.header) c file)) (ok_is b.2)
      (live-replace laws before dataset file b.0 reads short judges (refused_is refusal_of_build (built None dataset)
      b.0 b.1))
  next-live before dataset file Extend chart h reads short judges e =
      let b = bound_is (or_refused refusal_of_build (built (chart_of before) dataset)) _ chart e in
      subst (λ (c : Option CellValue). IsLive dataset.header.key (cell_after before Extend
      (held_after before Extend dataset.header) c file)) (ok_is b.2)
      (live-extend laws before dataset file b.0 h reads short judges (refused_is refusal_of_build
      (built (chart_of before) dataset) b.0 b.1))
  next-live before dataset file Cancel chart h reads short judges e =
      subst (λ (c : Option CellValue). IsLive dataset.header.key (cell_after before Cancel
      (held_after before Cancel dataset.header) c file)) (ok_is e)
      (live-cancel laws before dataset file h reads short judges)

  -- a file that is accepted keeps all cells what their files leave
  pub loaded-live : (state : StateValue) (file : List ℕ) (done : Outcome) → AreLive state.cells →
      loaded state file ≡ Ok done → AreLive done.state.cells
  loaded-live state file done live e =
      let l = loaded-is state file done e in
      let before = map.get state.cells l.dataset.header.key in
      let t = taken-is state l.dataset file before done l.accepts in
      subst AreLive t.cells
      (AreLive-insert state.cells l.dataset.header.key _ live
      (next-live before l.dataset file t.effect t.chart (live l.dataset.header.key) l.reads l.short t.judges t.builds))

  -- ---- the same by whole files

  by-files : (state : StateValue) (file : List ℕ) → AreLive state.cells → length file ≤ FILE_LIMIT →
      (r : Result DatasetValue ReadFault) → data_set_in file ≡ r →
      (or_refused refusal_of_read r >>= λ ds. outcome_of_data_set state ds file (map.get state.cells ds.header.key))
      ≡ (or_refused refusal_of_read r >>= λ ds. accepted_file state ds file
      (files_of (map.get state.cells ds.header.key)))
  by-files state file live short (Ok dataset) reads =
      sym (accepted-data_set laws state dataset file (map.get state.cells dataset.header.key)
      (live dataset.header.key) reads short)
  by-files state file live short (Err fault) reads = refl

  pub loaded-by-files : (state : StateValue) (file : List ℕ) → AreLive state.cells →
      loaded state file ≡ loaded_by_files state file
  unfolding loaded loaded_by_files
  loaded-by-files state file live =
      elim (cases_Bool (leb (length file) FILE_LIMIT)) [
        | inl is_so ↦
            let short : length file ≤ FILE_LIMIT = grind (arith, nat_tests, is_so) in
            ap (λ (r : Result (List ℕ) Refusal). r >>= λ bytes. or_refused refusal_of_read (data_set_in bytes) >>= λ ds.
            outcome_of_data_set state ds bytes (map.get state.cells ds.header.key)) (within-short file short)
            ∙ by-files state file live short (data_set_in file) refl
            ∙ sym (ap (λ (r : Result (List ℕ) Refusal). r >>= λ bytes. or_refused refusal_of_read (data_set_in bytes)
            >>= λ ds. accepted_file state ds bytes (files_of (map.get state.cells ds.header.key)))
            (within-short file short))
        | inr is_not ↦
            let long : within_limit file ≡ Err (FileLong FILE_LIMIT) =
            ap (λ (b : Bool). cond b (Ok file) (Err (FileLong FILE_LIMIT))) is_not in
            ap (λ (r : Result (List ℕ) Refusal). r >>= λ bytes. or_refused refusal_of_read (data_set_in bytes) >>= λ ds.
            outcome_of_data_set state ds bytes (map.get state.cells ds.header.key)) long
            ∙ sym (ap (λ (r : Result (List ℕ) Refusal). r >>= λ bytes. or_refused refusal_of_read (data_set_in bytes)
            >>= λ ds. accepted_file state ds bytes (files_of (map.get state.cells ds.header.key))) long)
      ]

-- ---- the data records that are come to

pub come_to-short : (file : List ℕ) → length file ≤ FILE_LIMIT → come_to file ≡ data_records_in tags_read file
come_to-short file short =
    ap (λ (b : Bool). cond b (data_records_in tags_read file) 0)
    (let fits : leb (length file) FILE_LIMIT ≡ true = grind (arith, nat_tests) in fits)

pub come_to-long : (file : List ℕ) → FILE_LIMIT < length file → come_to file ≡ 0
come_to-long file long =
    ap (λ (b : Bool). cond b (data_records_in tags_read file) 0)
    (let passes : leb (length file) FILE_LIMIT ≡ false = grind (arith, nat_tests) in passes)
