-- What holds of charts that are built.
use Rattle.std.proofs.Common.{◌≡◌, ℕ, ◌≤◌, false, List, [], ◌∷◌, Option, Some, None, Result, Ok, Err, refl, sym, ◌∙◌, ap, subst, arith, IfSome, All}
use Rattle.std.specs.List.{AllByRecursion}
use Rattle.std.specs.Option.{option_map}
use Rattle.std.proofs.lemmas.List.Elements.{recursion_from_All}
use Rattle.std.proofs.lemmas.Bool.{true≢false}
use Rattle.chart_model.specs.declared.dataset.Header.{Header}
use Rattle.chart_model.specs.Names.{name_cmp}
use Rattle.chart_model.specs.Cell.{CellValue, IsCell, IsChartHeader, IsVector, IsFeature}
use Rattle.chart_model.specs.Change.{Change, IsChange}
use Rattle.chart_model.specs.Dataset.{DatasetValue, IsDataset}
use Rattle.chart_model.proofs.Maps.{each-empty}
use Rattle.chart_closure.specs.Closed.{closure_fault}
use Rattle.update_apply.specs.Fault.{fault_of}
use Rattle.update_apply.specs.Changed.{cell_after}
use Rattle.update_sequence.specs.declared.fault.BuildFault.{BuildFault}
use Rattle.update_sequence.specs.declared.fault.BuildFault.TheVariants as of_build
use Rattle.chart_model.specs.Answers.{unless, ◌>>=◌}
use Rattle.update_sequence.specs.Built.{begun, folded, built}
use Rattle.update_sequence.proofs.DataSets.{ok_is}

-- ---- steps that succeed

pub bind-ok : (r : Result CellValue BuildFault) (next : CellValue → Result CellValue BuildFault) (cell : CellValue) → (r >>= next) ≡ Ok cell →
    (x : CellValue) × (r ≡ Ok x) × (next x ≡ Ok cell)
bind-ok (Ok x) next cell e = (x, refl, e)
bind-ok (Err fault) next cell e = absurd cc

pub unless-ok : {F : Type 0} (wrap : F → BuildFault) (fault : Option F) (x cell : CellValue) → unless (option_map wrap fault) x ≡ Ok cell → (fault ≡ None) × (x ≡ cell)
unless-ok wrap None x cell e = (refl, ok_is e)
unless-ok wrap (Some fault) x cell e = absurd cc

-- what a chart that is built is: what the changes leave, without a fault of closure
pub built-ok : (chart : Option CellValue) (dataset : DatasetValue) (cell : CellValue) → built chart dataset ≡ Ok cell →
    (folded (begun chart dataset.header) dataset.changes ≡ Ok cell) × (closure_fault cell ≡ None)
unfolding built
built-ok chart dataset cell e =
    let b = bind-ok (folded (begun chart dataset.header) dataset.changes) _ cell e in
    let u = unless-ok of_build.Closure (closure_fault b.0) b.0 cell b.2 in
    (b.1 ∙ ap Ok u.1, subst (λ (x : CellValue). closure_fault x ≡ None) u.1 u.0)

-- what holds of a cell, and of each cell that a change without a fault leaves, holds of what changes leave
pub folded-keeps : (P : CellValue → Type 0) (Q : Change → Type 0)
    → ((cell : CellValue) (change : Change) → P cell → Q change → fault_of cell change ≡ None
    → P (cell_after cell change)) →
    (cell after : CellValue) (changes : List Change) → P cell → AllByRecursion Q changes → folded cell changes ≡ Ok after → P after
unfolding folded
folded-keeps P Q keeps cell after [] here each e = subst P (ok_is e) here
folded-keeps P Q keeps cell after (change ∷ rest) here each e =
    let b = bind-ok (unless (option_map of_build.Change (fault_of cell change)) (cell_after cell change)) _ after e in
    let u = unless-ok of_build.Change (fault_of cell change) (cell_after cell change) b.0 b.1 in
    folded-keeps P Q keeps b.0 after rest (subst P u.1 (keeps cell change here each.0 u.0)) each.1 b.2

-- ---- cells

pub begun-header : (dataset : DatasetValue) → IsDataset dataset → dataset.cancels ≡ false → IsChartHeader dataset.header
begun-header dataset is stands = record {
  key = is.key;
  edition = (above dataset.header.edition (λ none. true≢false (sym (is.cancels.1 none) ∙ stands)), is.edition);
  update = is.update;
}
  where
    above : (n : ℕ) → (n ≡ 0 → ⊥) → 1 ≤ n
    above n h = omega (arith, h)

begun-cell : (chart : Option CellValue) (header : Header) → IfSome chart IsCell → IsChartHeader header → IsCell (begun chart header)
begun-cell None header is ranges = record { header = ranges; vectors = each-empty name_cmp IsVector; features = each-empty name_cmp IsFeature }
begun-cell (Some chart) header is ranges = record {
  header = record { key = is.header.key; edition = ranges.edition; update = ranges.update };
  vectors = is.vectors;
  features = is.features;
}

pub built-cell : ((cell : CellValue) (change : Change) → IsCell cell → IsChange change → fault_of cell change ≡ None
    → IsCell (cell_after cell change)) →
    (chart : Option CellValue) (dataset : DatasetValue) (cell : CellValue) → IfSome chart IsCell → IsDataset dataset → All IsChange dataset.changes → dataset.cancels ≡ false →
    built chart dataset ≡ Ok cell → IsCell cell
built-cell keeps chart dataset cell is data_set changes stands e =
    folded-keeps IsCell IsChange keeps (begun chart dataset.header) cell dataset.changes (begun-cell chart dataset.header is (begun-header dataset data_set stands))
    (recursion_from_All IsChange dataset.changes changes) (built-ok chart dataset cell e).0

-- ---- headers

any_change : (changes : List Change) → AllByRecursion (λ _. Unit {0}) changes
any_change [] = tt
any_change (change ∷ rest) = (tt, any_change rest)

pub built-header : ((cell : CellValue) (change : Change) → (cell_after cell change).header ≡ cell.header) →
    (chart : Option CellValue) (dataset : DatasetValue) (cell : CellValue) → built chart dataset ≡ Ok cell → cell.header ≡ (begun chart dataset.header).header
built-header keeps chart dataset cell e =
    let first = begun chart dataset.header in
    folded-keeps (λ (x : CellValue). x.header ≡ first.header) (λ _. Unit {0}) (λ x change here _ _. keeps x change ∙ here) first cell dataset.changes refl
    (any_change dataset.changes) (built-ok chart dataset cell e).0
