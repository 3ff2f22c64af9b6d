-- What a file that is taken over leaves of its cell can be held, and its chart is closed.
use Rattle.std.proofs.Common.{◌≡◌, ℕ, ◌≤◌, true, false, List, [], ◌∷◌, ◌++◌, length, All, Option, Some, None}
use Rattle.std.proofs.Common.{IfSome, Result, Ok, Err, refl, sym, ◌∙◌, ap, subst, arith}
use Rattle.std.proofs.lemmas.Bool.{true≢false}
use Rattle.std.proofs.lemmas.List.{length-append}
use Rattle.std.proofs.lemmas.List.Elements.{recursion_from_All, All-from_recursion}
use Rattle.std.specs.List.{AllByRecursion}
use Rattle.chart_closure.specs.Closed.{IsClosed}
use Rattle.chart_model.specs.Answers.{◌>>=◌}
use Rattle.chart_model.specs.Cell.{CellValue, IsCell}
use Rattle.chart_model.specs.Change.{IsChange}
use Rattle.chart_model.specs.Dataset.{DatasetValue, IsDataset}
use Rattle.chart_model.specs.State.{IsHeld, IsChartOf, IsFileLength, IsHolding}
use Rattle.chart_model.specs.declared.dataset.Header.{Header}
use Rattle.chart_model.specs.declared.state.Held.{Held}
use Rattle.chart_model.specs.declared.state.Holding.{Holding}
use Rattle.update_sequence.specs.Reading.{data_set_in}
use Rattle.update_sequence.specs.Built.{built, header_after}
use Rattle.update_sequence.specs.Judged.{judged}
use Rattle.update_sequence.specs.Rebuilt.{numbers_of}
use Rattle.update_sequence.specs.declared.effect.Effect.{Effect}
use Rattle.update_sequence.specs.declared.effect.Effect.TheVariants.{Replace, Extend, Cancel}
use Rattle.update_sequence.specs.declared.fault.BuildFault.{BuildFault}
use Rattle.chart_store.specs.Refusal.{refusal_of_build}
use Rattle.chart_store.specs.Fault.{or_refused}
use Rattle.chart_store.specs.Loaded.{held_of, chart_of, chart_after, cell_by, files_of, files_after}
use Rattle.chart_store.proofs.Judging.{effect_says, stands_by_base}
use Rattle.chart_store.proofs.Keeping.{some_is}

-- the laws of charts that are built
pub record Builds : Type 0 where
  pub data_sets : (file : List ℕ) (dataset : DatasetValue) → data_set_in file ≡ Ok dataset → IsDataset dataset
  pub changes : (file : List ℕ) (dataset : DatasetValue) → data_set_in file ≡ Ok dataset → All IsChange dataset.changes
  pub closed : (chart : Option CellValue) (dataset : DatasetValue) (cell : CellValue) → built chart dataset ≡ Ok cell →
      IsClosed cell
  pub cells : (chart : Option CellValue) (dataset : DatasetValue) (cell : CellValue) → IfSome chart IsCell →
      IsDataset dataset → All IsChange dataset.changes → dataset.cancels ≡ false → built chart dataset ≡ Ok cell →
      IsCell cell
  pub base : (dataset : DatasetValue) (cell : CellValue) → built None dataset ≡ Ok cell → cell.header ≡ dataset.header
  pub update : (chart : CellValue) (dataset : DatasetValue) (cell : CellValue) → built (Some chart) dataset ≡ Ok cell →
      cell.header ≡ header_after chart.header dataset.header

-- ---- the parts

numbers-held : (dataset : DatasetValue) → IsDataset dataset → dataset.cancels ≡ false → IsHeld (numbers_of dataset.header)
numbers-held dataset is stands = record {
  edition = (above dataset.header.edition (λ none. true≢false (sym (is.cancels.1 none) ∙ stands)), is.edition);
  update = is.update;
}
  where
    above : (n : ℕ) → (n ≡ 0 → ⊥) → 1 ≤ n
    above n h = omega (arith, h)

files-short : (before : Option Holding) (key : List ℕ) → IfSome before (IsHolding key) →
    AllByRecursion (λ f. IsFileLength (length f)) (files_of before)
files-short None key h = tt
files-short (Some here) key h = recursion_from_All (λ f. IsFileLength (length f)) here.files h.files

more-short : (files : List (List ℕ)) (file : List ℕ) → AllByRecursion (λ f. IsFileLength (length f)) files →
    IsFileLength (length file) → AllByRecursion (λ f. IsFileLength (length f)) (files ++ file ∷ [])
more-short [] file h short = (short, tt)
more-short (first ∷ files) file h short = (h.0, more-short files file h.1 short)

all-short : (before : Option Holding) (key : List ℕ) (effect : Effect) (file : List ℕ) → IfSome before (IsHolding key) →
    IsFileLength (length file) → All (λ f. IsFileLength (length f)) (files_after (files_of before) effect file)
all-short before key Replace file h short =
    All-from_recursion (λ f. IsFileLength (length f)) (file ∷ []) (short, tt)
all-short before key Extend file h short =
    All-from_recursion (λ f. IsFileLength (length f)) (files_of before ++ file ∷ [])
    (more-short (files_of before) file (files-short before key h) short)
all-short before key Cancel file h short =
    All-from_recursion (λ f. IsFileLength (length f)) (files_of before ++ file ∷ [])
    (more-short (files_of before) file (files-short before key h) short)

one-more : (files : List (List ℕ)) (file : List ℕ) → 1 ≤ length (files ++ file ∷ [])
one-more files file = omega (arith, length-append files (file ∷ []))

some-file : (files : List (List ℕ)) (effect : Effect) (file : List ℕ) → 1 ≤ length (files_after files effect file)
some-file files Replace file = omega arith
some-file files Extend file = one-more files file
some-file files Cancel file = one-more files file

-- what can be held, with a closed chart
pub record IsKeepable (key : List ℕ) (here : Holding) : Type 0 where
  pub holds : IsHolding key here
  pub closed : IfSome here.chart IsClosed

-- a chart that can be held, under these numbers
chart-held : (before : Option Holding) (dataset : DatasetValue) (effect : Effect) (file : List ℕ) (cell : CellValue) →
    IsDataset dataset → dataset.cancels ≡ false → IfSome before (IsHolding dataset.header.key) →
    IsFileLength (length file) → IsCell cell → cell.header.key ≡ dataset.header.key →
    cell.header.edition ≡ dataset.header.edition → cell.header.update ≡ dataset.header.update → IsClosed cell →
    IsKeepable dataset.header.key (record {
      held = numbers_of dataset.header;
      files = files_after (files_of before) effect file;
      chart = Some cell;
    })
chart-held before dataset effect file cell is stands h short is_cell keyed edition update closed = record {
  holds = record {
    keyed = is.key;
    held = numbers-held dataset is stands;
    nonempty = some-file (files_of before) effect file;
    files = all-short before dataset.header.key effect file h short;
    cancelled = (λ e. absurd cc, λ e. absurd (true≢false (sym e)));
    chart = record { cell = is_cell; keyed = keyed; edition = edition; update = update };
  };
  closed = closed;
}

ok_is : {A E : Type 0} {x y : A} → ◌≡◌ {A = Result A E} (Ok x) (Ok y) → x ≡ y
ok_is e = cc

-- the chart that was built
built-is : (chart : Option CellValue) (dataset : DatasetValue) (after : Option CellValue)
    (r : Result CellValue BuildFault) → built chart dataset ≡ r →
    (or_refused refusal_of_build r >>= λ made. Ok (Some made)) ≡ Ok after →
    (cell : CellValue) × (built chart dataset ≡ Ok cell) × (Some cell ≡ after)
built-is chart dataset after (Ok cell) is e = (cell, is, ok_is e)
built-is chart dataset after (Err fault) is e = absurd cc

chart-there : (holding : Holding) (key : List ℕ) → IsHolding key holding → holding.held.cancelled ≡ false →
    (o : Option CellValue) → holding.chart ≡ o → (chart : CellValue) × (holding.chart ≡ Some chart)
chart-there holding key h stands None is = absurd (true≢false (sym (h.cancelled.0 is) ∙ stands))
chart-there holding key h stands (Some chart) is = (chart, is)

module _ (laws : Builds) where
  -- ---- each effect

  by-base : (before : Option Holding) (dataset : DatasetValue) (file : List ℕ) (chart : Option CellValue) →
      IfSome before (IsHolding dataset.header.key) → data_set_in file ≡ Ok dataset → IsFileLength (length file) →
      dataset.base ≡ true → chart_after (chart_of before) Replace dataset ≡ Ok chart →
      IsKeepable dataset.header.key (cell_by before Replace dataset.header chart file)
  by-base before dataset file chart h reads short base e =
      let is = laws.data_sets file dataset reads in
      let stands = stands_by_base dataset is base in
      let made = built-is None dataset chart (built None dataset) refl e in
      let header = laws.base dataset made.0 made.1 in
      subst (λ (c : Option CellValue). IsKeepable dataset.header.key (cell_by before Replace dataset.header c file)) made.2
      (chart-held before dataset Replace file made.0 is stands h short
      (laws.cells None dataset made.0 tt is (laws.changes file dataset reads) stands made.1)
      (ap (λ (x : Header). x.key) header) (ap (λ (x : Header). x.edition) header)
      (ap (λ (x : Header). x.update) header) (laws.closed None dataset made.0 made.1))

  behind-chart : (holding : Holding) (dataset : DatasetValue) (file : List ℕ) (before chart : Option CellValue)
      (was : CellValue) → IsHolding dataset.header.key holding → holding.chart ≡ Some was →
      data_set_in file ≡ Ok dataset → IsFileLength (length file) → dataset.cancels ≡ false →
      chart_after (Some was) Extend dataset ≡ Ok chart →
      IsKeepable dataset.header.key (cell_by (Some holding) Extend dataset.header chart file)
  behind-chart holding dataset file before chart was h has reads short stands e =
      let is = laws.data_sets file dataset reads in
      let old : IsChartOf dataset.header.key holding.held was =
      subst (λ (c : Option CellValue). IfSome c (IsChartOf dataset.header.key holding.held)) has h.chart in
      let made = built-is (Some was) dataset chart (built (Some was) dataset) refl e in
      let header = laws.update was dataset made.0 made.1 in
      subst (λ (c : Option CellValue). IsKeepable dataset.header.key
      (cell_by (Some holding) Extend dataset.header c file)) made.2
      (chart-held (Some holding) dataset Extend file made.0 is stands h short
      (laws.cells (Some was) dataset made.0 old.cell is (laws.changes file dataset reads) stands made.1)
      (ap (λ (x : Header). x.key) header ∙ old.keyed) (ap (λ (x : Header). x.edition) header)
      (ap (λ (x : Header). x.update) header) (laws.closed (Some was) dataset made.0 made.1))

  by-cancelling : (holding : Holding) (dataset : DatasetValue) (file : List ℕ) →
      IsHolding dataset.header.key holding → IsFileLength (length file) →
      IsKeepable dataset.header.key (cell_by (Some holding) Cancel dataset.header None file)
  by-cancelling holding dataset file h short = record {
    holds = record {
      keyed = h.keyed;
      held = record { edition = h.held.edition; update = h.held.update };
      nonempty = some-file holding.files Cancel file;
      files = all-short (Some holding) dataset.header.key Cancel file h short;
      cancelled = (λ _. refl, λ _. refl);
      chart = tt;
    };
    closed = tt;
  }

  -- ---- whatever effect it has

  pub next-held : (before : Option Holding) (dataset : DatasetValue) (file : List ℕ) (effect : Effect)
      (chart : Option CellValue) → IfSome before (IsHolding dataset.header.key) → data_set_in file ≡ Ok dataset →
      IsFileLength (length file) → judged (held_of before) dataset ≡ Ok effect →
      chart_after (chart_of before) effect dataset ≡ Ok chart →
      IsKeepable dataset.header.key (cell_by before effect dataset.header chart file)
  next-held before dataset file Replace chart h reads short judges e =
      by-base before dataset file chart h reads short (effect_says (held_of before) dataset Replace judges) e
  next-held None dataset file Extend chart h reads short judges e =
      absurd (let says = effect_says None dataset Extend judges in let none = says.is in cc)
  next-held (Some holding) dataset file Extend chart h reads short judges e =
      let says = effect_says (Some holding.held) dataset Extend judges in
      let lives = ap (λ (x : Held). x.cancelled) (some_is says.is) ∙ says.lives in
      let was = chart-there holding dataset.header.key h lives holding.chart refl in
      behind-chart holding dataset file (chart_of (Some holding)) chart was.0 h was.1 reads short says.stands
      (ap (λ (c : Option CellValue). chart_after c Extend dataset) (sym was.1) ∙ e)
  next-held None dataset file Cancel chart h reads short judges e =
      absurd (let says = effect_says None dataset Cancel judges in let none = says.is in cc)
  next-held (Some holding) dataset file Cancel chart h reads short judges e =
      subst (λ (c : Option CellValue). IsKeepable dataset.header.key
      (cell_by (Some holding) Cancel dataset.header c file)) (ok_is e)
      (by-cancelling holding dataset file h short)
