use Rattle.std.proofs.Common.{◌∷◌, get_or, sym}
use Rattle.std.proofs.lemmas.Result.{err_from_is_err_and}
use Rattle.iso8211_records.proofs.Described.{HaveTags-push, is_new-by, no_entry, described-more, described-fail, described-all}
use Rattle.iso8211_records.proofs.Results.{Fails-from}
use Rattle.iso8211_records.proofs.descriptive.read_descriptors.Goals as goal

pub returns-in_err-descriptor : goal.returns-in_err-descriptor
returns-in_err-descriptor c =
    let p = err_from_is_err_and c.from_residual.result c.from_residual.ensures.1 in
    rw (p.1, p.2) (described-fail _ _ _ c.args.tags.now c.loop-entry.invariant.0 _ c.args.entries.now c.loop-entry.entry-index _ c.loop-entry-test.true
    (is_new-by c.args.tags.now c.loop-entry.invariant.0 _ (get_or c.args.entries.now c.loop-entry.entry-index no_entry).tag _ c.loop-entry.invariant.1 c.if-not-is_new.ensures)
    (Fails-from _ _ (sym (rw c.field_in-field.ensures.named at c.in_err-descriptor.ensures))) c.loop-entry.invariant.2)

pub loop-entry-preserved : goal.loop-entry-preserved
loop-entry-preserved c =
    rw c.in_ok-push.ensures.ok (
      (get_or c.args.entries.now c.loop-entry.entry-index no_entry).tag ∷ c.loop-entry.invariant.0,
      HaveTags-push _ _ _ c.loop-entry.invariant.1,
      described-more _ _ _ c.loop-entry.invariant.0 _ c.args.entries.now c.loop-entry.entry-index _ _ c.loop-entry-test.true
          (is_new-by c.args.tags.now c.loop-entry.invariant.0 _ (get_or c.args.entries.now c.loop-entry.entry-index no_entry).tag _ c.loop-entry.invariant.1 c.if-not-is_new.ensures)
          (sym (rw c.field_in-field.ensures.named at c.in_ok-descriptor.ensures)) c.loop-entry.invariant.2,
    )

pub returns : goal.returns
returns c = described-all _ _ _ c.loop-entry.invariant.0 _ _ _ _ c.loop-entry-test.false c.loop-entry.invariant.2
