use Rattle.std.proofs.Common.{sym}
use Rattle.iso8211_records.proofs.Places.{place-later, place-next}
use Rattle.iso8211_records.proofs.frame.check_ends.Goals as goal

pub loop-entry-preserved : goal.loop-entry-preserved
loop-entry-preserved c = record {
  place = rw c.size_of_entry-size.ensures.size (place-next _ _ _ c.loop-entry.invariant.place);
  checked = rw c.size_of_entry-size.ensures.size (place-later _ _ _ _ _ _ _ c.loop-entry-test.true (sym c.if-not-is_ended_in.ensures) c.loop-entry.invariant.checked);
}
