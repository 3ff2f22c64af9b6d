use Rattle.std.proofs.Common.{◌≡◌, ◌+◌, List, ◌++◌, [], ◌∷◌, Ok, drop, refl, ap, sym, ◌∙◌, arith, subst}
use Rattle.std.proofs.lemmas.Result.{err_from_is_err_and}
use Rattle.iso8211_records.specs.declared.record.RawField.{RawField}
use Rattle.iso8211_records.specs.FileValue.{FileValue}
use Rattle.iso8211_records.specs.Kinds.{layout_at}
use Rattle.s57_subfields.specs.RowValues.{RowValues, fields_in}
use Rattle.exchange_catalogue.specs.Entries.{CATD}
use Rattle.exchange_catalogue.specs.declared.entry.Entry.{Entry}
use Rattle.exchange_catalogue.proofs.EntriesSoFar.{behind, entries_from, so_far-entry, so_far-none, so_far-fault}
use Rattle.exchange_catalogue.proofs.EntriesSoFar.{whole-is, at_end}
use Rattle.exchange_catalogue.proofs.read.read_entries.Goals as goal
use Rattle.exchange_catalogue.proofs.read.read_entries.Goals.{then-not-is_empty+in_ok-read+in_ok-push}
use Rattle.exchange_catalogue.proofs.read.read_entries.Goals.{else-not-is_empty}

pub returns-in_err-read : goal.returns-in_err-read
returns-in_err-read c =
    let p = err_from_is_err_and c.from_residual.result c.from_residual.ensures.1 in
    let records = c.as_slice-records.result.now in
    let fields = c.index-records-index.result in
    let values : c.new-values.result ≡ fields_in (c.loop-index.index + 1) CATD fields =
    c.new-values.ensures ∙ ap (fields_in (c.loop-index.index + 1) CATD) c.as_slice.ensures in
    let whole = whole-is c.args.file.now c.find-row.result _ records c.find-row.ensures
    (c.get.ensures ∙ ap (λ (file : FileValue). layout_at file.descriptors CATD) c.file.view_is)
    (c.as_slice-records.ensures ∙ ap (λ (file : FileValue). file.records) c.file.view_is) in
    rw (p.1, p.2)
    (so_far-fault c.find-row.result records c.loop-index.index fields c.loop-index-test.true c.index-records-index.is
    c.loop-index.entries.items _
    (c.loop-index.invariant ∙ whole) c.new-values.result values c.in_err-read.field-0.0
    (sym c.is_empty.ensures ∙ c.if-not-is_empty.true) c.in_err-read.ensures)

pub loop-index-preserved : goal.loop-index-preserved
loop-index-preserved c =
    let records = c.as_slice-records.result.now in
    let index = c.loop-index.index in
    let fields = c.index-records-index.result in
    let values : c.new-values.result ≡ fields_in (index + 1) CATD fields =
    c.new-values.ensures ∙ ap (fields_in (index + 1) CATD) c.as_slice.ensures in
    let read = λ (l : List Entry). behind l (entries_from c.find-row.result (index + 1 + 1) (drop (index + 1) records))
    in
    elim c.if-not-is_empty.branch [
      | then-not-is_empty+in_ok-read+in_ok-push w ↦
          ap (λ (l : List Entry). read l) (ap (λ v. v.items) w.entries-is ∙ w.in_ok-push.ensures.items)
          ∙ so_far-entry c.find-row.result records index fields c.loop-index-test.true c.index-records-index.is
          c.loop-index.entries.items _
          c.loop-index.invariant c.new-values.result values w.in_ok-read.field-0
          (sym c.is_empty.ensures ∙ w.if-not-is_empty.true) w.in_ok-read.ensures
      | else-not-is_empty w ↦
          ap (λ v. read v.items) w.entries-is
          ∙ so_far-none c.find-row.result records index fields c.loop-index-test.true c.index-records-index.is
          c.loop-index.entries.items _
          c.loop-index.invariant c.new-values.result values (sym c.is_empty.ensures ∙ w.if-not-is_empty.false)
    ]

pub returns : goal.returns
returns c =
    let records = c.as_slice-records.result.now in
    let whole = whole-is c.args.file.now c.find-row.result _ records c.find-row.ensures
    (c.get.ensures ∙ ap (λ (file : FileValue). layout_at file.descriptors CATD) c.file.view_is)
    (c.as_slice-records.ensures ∙ ap (λ (file : FileValue). file.records) c.file.view_is) in
    at_end c.find-row.result records c.loop-index.index c.loop-index.entries.items _ c.loop-index-test.false
    (c.loop-index.invariant ∙ whole)
    ∙ ap (λ (l : List Entry). Ok l) (sym c.from_vec.ensures)
