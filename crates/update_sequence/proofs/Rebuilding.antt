-- The chart of a list of files, one after the other.
use Rattle.std.proofs.Common.{◌≡◌, ℕ, ◌+◌, ◌<◌, ◌≤◌, Bool, false, cond, List, length, get_or, take, drop, Option, Some, None, Result, Ok, refl, sym, ◌∙◌, ap, subst}
use Rattle.std.specs.Result.{IsOk, result_ok}
use Rattle.std.specs.Option.{option_map, option_and_then}
use Rattle.std.proofs.lemmas.List.Sums.{fold_more, sum_by_more, sum_by_more_le}
use Rattle.chart_model.specs.Cell.{CellValue}
use Rattle.chart_model.specs.Dataset.{DatasetValue}
use Rattle.chart_closure.specs.Closed.{closure_fault}
use Rattle.chart_closure.specs.declared.fault.ClosureFault.{ClosureFault}
use Rattle.iso8211_records.specs.RecordFile.{data_records_in}
use Rattle.update_sequence.specs.declared.fault.BuildFault.{BuildFault}
use Rattle.update_sequence.specs.declared.fault.BuildFault.TheVariants as of_build
use Rattle.update_sequence.specs.declared.fault.ReadFault.{ReadFault}
use Rattle.update_sequence.specs.Reading.{data_set_in, tags_read}
use Rattle.chart_model.specs.Answers.{unless, ◌>>=◌}
use Rattle.update_sequence.specs.Built.{begun, folded, built}
use Rattle.update_sequence.specs.Rebuilt.{chart_with, chart_after, rebuilt, data_records_of}
use Rattle.update_sequence.specs.Sequence.{IsUpdateSequence}
use Rattle.update_sequence.proofs.Places.{around_place}

-- what the last change leaves, by its fault of closure
abbrev closing : Option ClosureFault → CellValue → Result CellValue BuildFault
closing fault cell = unless (option_map of_build.Closure fault) cell

closing-closed : (fault : Option ClosureFault) (cell : CellValue) → IsOk (closing fault cell) → closing fault cell ≡ Ok cell
closing-closed None cell h = refl
closing-closed (Some fault) cell h = absurd cc

-- where a data set builds a chart, it is the one that its changes leave
pub built-made : (chart : Option CellValue) (dataset : DatasetValue) (cell : CellValue) → folded (begun chart dataset.header) dataset.changes ≡ Ok cell → IsOk (built chart dataset) → built chart dataset ≡ Ok cell
unfolding built
built-made chart dataset cell made h =
    let P : Result CellValue BuildFault → Type 0 = λ r. IsOk (r >>= (λ x. closing (closure_fault x) x)) in
    ap (λ (r : Result CellValue BuildFault). r >>= (λ x. closing (closure_fault x) x)) made ∙ closing-closed (closure_fault cell) cell (subst P made h)

pub chart_with-made : (chart : Option CellValue) (dataset : DatasetValue) (cell : CellValue) → dataset.cancels ≡ false → folded (begun chart dataset.header) dataset.changes ≡ Ok cell → IsOk (built chart dataset) → chart_with chart dataset ≡ Some cell
chart_with-made chart dataset cell stands made h =
    ap (λ (b : Bool). cond b None (result_ok (built chart dataset))) stands ∙ ap result_ok (built-made chart dataset cell made h)

-- the chart after the file at a place
rebuilt-next : (files : List (List ℕ)) (i : ℕ) (file : List ℕ) → i < length files → file ≡ get_or files i file → rebuilt (take (i + 1) files) ≡ chart_after (rebuilt (take i files)) file
unfolding rebuilt
rebuilt-next files i file h e = fold_more chart_after None files i file h ∙ ap (chart_after (rebuilt (take i files))) (sym e)

pub data_records-next : (files : List (List ℕ)) (i : ℕ) (file : List ℕ) → i < length files → file ≡ get_or files i file → data_records_of (take (i + 1) files) ≡ data_records_of (take i files) + data_records_in tags_read file
data_records-next files i file h e = sum_by_more (data_records_in tags_read) files i file h ∙ ap (λ x. data_records_of (take i files) + data_records_in tags_read x) (sym e)

pub data_records-within : (files : List (List ℕ)) (i : ℕ) (file : List ℕ) → i < length files → file ≡ get_or files i file → data_records_of (take i files) + data_records_in tags_read file ≤ data_records_of files
data_records-within files i file h e =
    let P : List ℕ → Type 0 = λ x. data_records_of (take i files) + data_records_in tags_read x ≤ data_records_of files in
    subst P (sym e) (sum_by_more_le (data_records_in tags_read) files i file h)

ok_is : {A E : Type 0} {x y : A} → ◌≡◌ {A = Result A E} (Ok x) (Ok y) → x ≡ y
ok_is e = cc

-- the data set at a place of an update sequence builds on the chart of the files before it
pub builds-next : (key : List ℕ) (files : List (List ℕ)) → IsUpdateSequence key files → (i : ℕ) (file : List ℕ) → i < length files → file ≡ get_or files i file →
    (dataset : DatasetValue) → data_set_in file ≡ Ok dataset → dataset.cancels ≡ false → IsOk (built (rebuilt (take i files)) dataset)
builds-next key files sequence i file h e dataset reads stands =
    let f = sequence.each (take i files) (drop (i + 1) files) file (around_place files i file h e) in
    let same : f.dataset ≡ dataset = ok_is (sym f.reads ∙ reads) in
    let P : DatasetValue → Type 0 = λ d. IsOk (built (rebuilt (take i files)) d) in
    subst P same (f.builds (ap (λ (d : DatasetValue). d.cancels) same ∙ stands))

-- the chart after the data set of the file at a place
pub rebuilt-with : (files : List (List ℕ)) (i : ℕ) (file : List ℕ) → i < length files → file ≡ get_or files i file → (dataset : DatasetValue) → data_set_in file ≡ Ok dataset →
    (chart : Option CellValue) → chart ≡ rebuilt (take i files) → chart_with chart dataset ≡ rebuilt (take (i + 1) files)
rebuilt-with files i file h e dataset reads chart before =
    ap (λ (c : Option CellValue). chart_with c dataset) before
    ∙ ap (λ (r : Result DatasetValue ReadFault). option_and_then (chart_with (rebuilt (take i files))) (result_ok r)) (sym reads)
    ∙ sym (rebuilt-next files i file h e)
