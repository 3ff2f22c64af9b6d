-- What an update sequence leaves can be held.
use Rattle.std.proofs.Common.{◌≡◌, ◌≢◌, inl, inr, ◌↔◌, ℕ, ◌+◌, ◌≤◌, Bool, true, false, cond, List, [], ◌∷◌, ◌++◌, length, get_or, take, drop, Option, Some, None, Result, Ok, Err, IfSome, All, refl, sym, ◌∙◌, ap, subst, arith}
use Rattle.std.specs.Option.{option_map, option_and_then}
use Rattle.std.specs.Result.{IsOk, result_ok}
use Rattle.std.proofs.lemmas.Bool.{true≢false, cases_Bool}
use Rattle.std.proofs.lemmas.List.{append-nil, get_or_default}
use Rattle.std.proofs.lemmas.List.Sums.{fold-append}
use Rattle.chart_model.specs.Cell.{CellValue, IsCell}
use Rattle.chart_model.specs.Change.{IsChange}
use Rattle.chart_model.specs.Dataset.{DatasetValue, IsDataset}
use Rattle.chart_model.specs.Key.{IsKey}
use Rattle.chart_model.specs.State.{IsHeld, IsChartOf, IsFileLength, IsHolding}
use Rattle.chart_model.specs.declared.state.Held.{Held}
use Rattle.chart_closure.specs.Closed.{IsClosed}
use Rattle.update_sequence.specs.declared.fault.BuildFault.{BuildFault}
use Rattle.update_sequence.specs.declared.fault.ReadFault.{ReadFault}
use Rattle.update_sequence.specs.Reading.{data_set_in}
use Rattle.update_sequence.specs.Built.{header_after, built}
use Rattle.update_sequence.specs.Rebuilt.{chart_with, chart_after, rebuilt, numbers_of, cancelled_numbers, held_with}
use Rattle.update_sequence.specs.Rebuilt.{held_after, held_by}
use Rattle.update_sequence.specs.Sequence.{Follows, IsUpdateSequence}
use Rattle.update_sequence.proofs.Charts.{begun-header}
use Rattle.update_sequence.proofs.Lists.{moved}
use Rattle.update_sequence.proofs.Places.{around_place}

-- the numbers and the chart can be held under this key, and the chart is closed
record IsLeft (key : List ℕ) (numbers : Option Held) (built_chart : Option CellValue) : Type 0 where
  held : Held
  held_is : numbers ≡ Some held
  is_held : IsHeld held
  none : (built_chart ≡ None) ↔ (held.cancelled ≡ true)
  chart : IfSome built_chart (IsChartOf key held)
  closed : IfSome built_chart IsClosed

ok_value : (r : Result CellValue BuildFault) → IsOk r → (cell : CellValue) × (r ≡ Ok cell)
ok_value (Ok cell) h = (cell, refl)
ok_value (Err fault) h = absurd cc

-- what is known of the chart before
IsBefore : List ℕ → CellValue → Type 0
IsBefore key chart = IsCell chart × (chart.header.key ≡ key)

module _
    (data_sets : (file : List ℕ) (dataset : DatasetValue) → data_set_in file ≡ Ok dataset → IsDataset dataset)
    (changes : (file : List ℕ) (dataset : DatasetValue) → data_set_in file ≡ Ok dataset → All IsChange dataset.changes)
    (closed : (chart : Option CellValue) (dataset : DatasetValue) (cell : CellValue) → built chart dataset ≡ Ok cell → IsClosed cell)
    (cells : (chart : Option CellValue) (dataset : DatasetValue) (cell : CellValue) → IfSome chart IsCell → IsDataset dataset → All IsChange dataset.changes → dataset.cancels ≡ false → built chart dataset ≡ Ok cell → IsCell cell)
    (base_header : (dataset : DatasetValue) (cell : CellValue) → built None dataset ≡ Ok cell → cell.header ≡ dataset.header)
    (update_header : (chart : CellValue) (dataset : DatasetValue) (cell : CellValue) → built (Some chart) dataset ≡ Ok cell → cell.header ≡ header_after chart.header dataset.header)
  where
    -- a data set that doesn't cancel leaves its numbers and the chart that it builds
    numbers_left : (key : List ℕ) (dataset : DatasetValue) (cell : CellValue) → IsDataset dataset → dataset.cancels ≡ false → IsCell cell → cell.header.key ≡ key →
        cell.header.edition ≡ dataset.header.edition → cell.header.update ≡ dataset.header.update → IsClosed cell → IsLeft key (Some (numbers_of dataset.header)) (Some cell)
    numbers_left key dataset cell is stands is_cell keyed edition update is_closed =
        let ranges = begun-header dataset is stands in
        record {
          held = numbers_of dataset.header;
          held_is = refl;
          is_held = record { edition = ranges.edition; update = ranges.update };
          none = (λ e. absurd cc, λ e. absurd (true≢false (sym e)));
          chart = record { cell = is_cell; keyed = keyed; edition = edition; update = update };
          closed = is_closed;
        }

    built_left : (key : List ℕ) (chart : Option CellValue) (dataset : DatasetValue) (cell : CellValue) → IsDataset dataset → All IsChange dataset.changes → dataset.header.key ≡ key →
        dataset.cancels ≡ false → IfSome chart (IsBefore key) → built chart dataset ≡ Ok cell → IsLeft key (Some (numbers_of dataset.header)) (Some cell)
    unfolding IsBefore
    built_left key None dataset cell is each keyed stands before e =
        let h = base_header dataset cell e in
        numbers_left key dataset cell is stands (cells None dataset cell tt is each stands e) (ap (λ x. x.key) h ∙ keyed) (ap (λ x. x.edition) h) (ap (λ x. x.update) h) (closed None dataset cell e)
    built_left key (Some chart) dataset cell is each keyed stands before e =
        let h = update_header chart dataset cell e in
        numbers_left key dataset cell is stands (cells (Some chart) dataset cell before.0 is each stands e) (ap (λ x. x.key) h ∙ before.1) (ap (λ x. x.edition) h) (ap (λ x. x.update) h) (closed (Some chart) dataset cell e)

    before_left : (key : List ℕ) (held : Held) (chart : Option CellValue) → IfSome chart (IsChartOf key held) → IfSome chart (IsBefore key)
    unfolding IsBefore
    before_left key held None h = tt
    before_left key held (Some chart) h = (h.cell, h.keyed)

    -- a data set that cancels
    cancel_left : (key : List ℕ) (numbers : Option Held) (chart : Option CellValue) → IsLeft key numbers chart
        → IsLeft key (option_map cancelled_numbers numbers) None
    cancel_left key numbers chart left = record {
      held = cancelled_numbers left.held;
      held_is = ap (option_map cancelled_numbers) left.held_is;
      is_held = record { edition = left.is_held.edition; update = left.is_held.update };
      none = (λ _. refl, λ _. refl);
      chart = tt;
      closed = tt;
    }

    with_left : (key : List ℕ) (numbers : Option Held) (chart : Option CellValue) (dataset : DatasetValue) → IsDataset dataset → All IsChange dataset.changes → dataset.header.key ≡ key →
        (dataset.cancels ≡ false → IsOk (built chart dataset)) → (dataset.base ≡ true → chart ≡ None) → (dataset.base ≡ false → IsLeft key numbers chart) →
        IsLeft key (held_with numbers dataset) (chart_with chart dataset)
    with_left key numbers chart dataset is each keyed builds first left =
        elim (cases_Bool dataset.cancels) [
          | inl cancels ↦
              let l = cancel_left key numbers chart (left (is.base_stands cancels)) in
              subst (λ (b : Bool).
              IsLeft key (cond b (option_map cancelled_numbers numbers) (Some (numbers_of dataset.header)))
              (cond b None (result_ok (built chart dataset)))) (sym cancels) l
          | inr stands ↦
              let made = ok_value (built chart dataset) (builds stands) in
              let before : IfSome chart (IsBefore key) =
              elim (cases_Bool dataset.base) [
                | inl base ↦ subst (λ (c : Option CellValue). IfSome c (IsBefore key)) (sym (first base)) tt
                | inr update ↦ before_left key (left update).held chart (left update).chart
              ] in
              let l = built_left key chart dataset made.0 is each keyed stands before made.1 in
              subst (λ (b : Bool).
              IsLeft key (cond b (option_map cancelled_numbers numbers) (Some (numbers_of dataset.header)))
              (cond b None (result_ok (built chart dataset)))) (sym stands)
              (subst (λ (r : Result CellValue BuildFault). IsLeft key (Some (numbers_of dataset.header)) (result_ok r)) (sym made.1) l)
        ]

    after_left : (key : List ℕ) (before : List (List ℕ)) (file : List ℕ) → Follows key before file → (before ≢ [] → IsLeft key (held_by before) (rebuilt before)) →
        IsLeft key (held_after (held_by before) file) (chart_after (rebuilt before) file)
    unfolding rebuilt
    after_left key before file f left =
        let P : Result DatasetValue ReadFault → Type 0 = λ r. IsLeft key (option_and_then (held_with (held_by before)) (result_ok r)) (option_and_then (chart_with (rebuilt before)) (result_ok r)) in
        subst P (sym f.reads)
        (with_left key (held_by before) (rebuilt before) f.dataset (data_sets file f.dataset f.reads) (changes file f.dataset f.reads) f.keyed f.builds
        (λ base. ap rebuilt (f.first.0 base))
        (λ update. left (λ none. true≢false (sym (f.first.1 none) ∙ update))))

    next_left : (key : List ℕ) (before : List (List ℕ)) (file : List ℕ) → Follows key before file → (before ≢ [] → IsLeft key (held_by before) (rebuilt before)) →
        IsLeft key (held_by (before ++ file ∷ [])) (rebuilt (before ++ file ∷ []))
    unfolding held_by rebuilt
    next_left key before file f left =
        let l = after_left key before file f left in
        subst (λ (n : Option Held). IsLeft key n (rebuilt (before ++ file ∷ []))) (sym (fold-append held_after None before (file ∷ [])))
        (subst (λ (c : Option CellValue). IsLeft key (held_after (held_by before) file) c) (sym (fold-append chart_after None before (file ∷ []))) l)

    all_left : (key : List ℕ) (before rest : List (List ℕ)) → IsUpdateSequence key (before ++ rest) → (before ≢ [] → IsLeft key (held_by before) (rebuilt before)) →
        IsLeft key (held_by (before ++ rest)) (rebuilt (before ++ rest))
    all_left key before [] sequence left =
        let same : before ++ [] ≡ before = append-nil before in
        subst (λ (l : List (List ℕ)). IsLeft key (held_by l) (rebuilt l)) (sym same) (left (λ none. sequence.some (same ∙ none)))
    all_left key before (file ∷ rest) sequence left =
        let same = moved before rest file in
        subst (λ (l : List (List ℕ)). IsLeft key (held_by l) (rebuilt l)) same
        (all_left key (before ++ file ∷ []) rest (subst (λ (l : List (List ℕ)). IsUpdateSequence key l) (sym same) sequence) (λ _. next_left key before file (sequence.each before rest file refl) left))

    sequence_left : (key : List ℕ) (files : List (List ℕ)) → IsUpdateSequence key files → IsLeft key (held_by files) (rebuilt files)
    sequence_left key files sequence = all_left key [] files sequence (λ some. absurd (some refl))

    -- the key is that of the first file
    is_key : (key : List ℕ) (files : List (List ℕ)) → IsUpdateSequence key files → IsKey key
    is_key key [] sequence = absurd (sequence.some refl)
    is_key key (file ∷ files) sequence =
        let first = sequence.each [] files file refl in
        subst IsKey first.keyed (data_sets file first.dataset first.reads).key

    some_file : (files : List (List ℕ)) → files ≢ [] → 1 ≤ length files
    some_file [] some = absurd (some refl)
    some_file (file ∷ files) some = omega arith

    each_short : (key : List ℕ) (files : List (List ℕ)) → IsUpdateSequence key files → All (λ file. IsFileLength (length file)) files
    each_short key files sequence k d below =
        (sequence.each (take k files) (drop (k + 1) files) (get_or files k d) (around_place files k (get_or files k d) below (get_or_default files k d (get_or files k d) below))).short

    pub sequence-held : (key : List ℕ) (files : List (List ℕ)) → IsUpdateSequence key files →
        (held : Held) × (held_by files ≡ Some held) × IsHolding key (record { held = held; files = files; chart = rebuilt files })
    sequence-held key files sequence =
        let left = sequence_left key files sequence in (
          left.held,
          left.held_is,
          record {
            keyed = is_key key files sequence;
            held = left.is_held;
            nonempty = some_file files sequence.some;
            files = each_short key files sequence;
            cancelled = left.none;
            chart = left.chart;
          },
        )

    pub sequence-closed : (key : List ℕ) (files : List (List ℕ)) → IsUpdateSequence key files → IfSome (rebuilt files) IsClosed
    sequence-closed key files sequence = (sequence_left key files sequence).closed
