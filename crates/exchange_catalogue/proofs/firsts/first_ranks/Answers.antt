use Rattle.std.proofs.Common.{ℕ, List, refl, ap, arith}
use Rattle.std.specs.BTreeMap.{get, is_at}
use Rattle.std.specs.Map.{lookup}
use Rattle.std.proofs.lemmas.Result.{err_from_is_err_and}
use Rattle.chart_model.specs.Keys.{key_cmp}
use Rattle.exchange_catalogue.specs.declared.cell_file.Rank.{Rank}
use Rattle.exchange_catalogue.proofs.Noted.{noted-first, noted-next, noted-all, faultless-next, faultless-all}
use Rattle.exchange_catalogue.proofs.Noted.{fault-here}
use Rattle.exchange_catalogue.proofs.firsts.first_ranks.Goals as goal

pub loop-place-init : goal.loop-place-init
loop-place-init c = (
  noted-first (get key_cmp c.new-files.result) c.args.entries.now
      (λ path. ap (λ (es : List (List ℕ × Rank)). lookup (is_at (key_cmp path)) es) c.new-files.ensures.empty),
  refl,
)

pub loop-place-preserved : goal.loop-place-preserved
loop-place-preserved c =
    let entry = c.index-entries-place.result in
    let kept = c.loop-place.invariant in (
      noted-next (get key_cmp c.loop-place.files) (get key_cmp c.note_entry.new.files) c.args.entries.now
          c.loop-place.place entry
          c.loop-place-test.true c.index-entries-place.is c.in_ok-note_entry.ensures.noted kept.0,
      faultless-next c.args.entries.now c.loop-place.place entry c.loop-place-test.true c.index-entries-place.is
          c.in_ok-note_entry.ensures.fault kept.1,
    )

pub returns-in_err-note_entry-clause-fault : goal.returns-in_err-note_entry-clause-fault
returns-in_err-note_entry-clause-fault c =
    let p = err_from_is_err_and c.from_residual.result c.from_residual.ensures.1 in
    rw (p.1, p.2)
    (fault-here c.args.entries.now c.loop-place.place c.index-entries-place.result c.in_err-note_entry.field-0.0
    c.loop-place-test.true
    c.index-entries-place.is c.loop-place.invariant.1 c.in_err-note_entry.ensures.fault)

pub returns-clause-ranks : goal.returns-clause-ranks
returns-clause-ranks c =
    noted-all (get key_cmp c.loop-place.files) c.args.entries.now c.loop-place.place c.loop-place-test.false
    c.loop-place.invariant.0

pub returns-clause-fault : goal.returns-clause-fault
returns-clause-fault c = faultless-all c.args.entries.now c.loop-place.place c.loop-place-test.false
    c.loop-place.invariant.1
