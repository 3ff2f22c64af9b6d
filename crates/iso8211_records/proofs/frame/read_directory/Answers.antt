use Rattle.std.proofs.Common.{arith, sym}
use Rattle.iso8211_leader.specs.Leader.{frame}
use Rattle.iso8211_records.specs.Reading.{directory_at, entries_at}
use Rattle.iso8211_records.proofs.Directory.{directory-more, directory-none, directory-closed, directory-open, nothing-before}
use Rattle.iso8211_records.proofs.Places.{place-push}
use Rattle.iso8211_records.proofs.frame.read_directory.Goals as goal

pub loop-place-init : goal.loop-place-init
unfolding directory_at
loop-place-init c =
    let empty = c.clear.ensures.items in
    let low = c.args.leader.now.after_directory in
    record {
      within = omega arith;
      place = rw empty (omega arith);
      read = rw empty (nothing-before (entries_at c.args.leader.now.base c.args.at (frame c.args.leader.now) c.args.bytes.now 24));
    }

pub loop-place-preserved : goal.loop-place-preserved
loop-place-preserved c = record {
  within = let inside = c.in-Ok.ensures.entry.before_closing in let size = c.size_of_entry-size.ensures.size in omega arith;
  place = rw (c.in_ok-push-in-Ok.ensures.items, c.size_of_entry-size.ensures.size) (place-push _ _ _ _ c.loop-place.invariant.place);
  read = rw (c.in_ok-push-in-Ok.ensures.items, c.size_of_entry-size.ensures.size) (directory-more _ _ _ _ _ _ _ c.loop-place-test.true c.in-Ok.ensures.entry c.in-Ok.ensures.numbers c.loop-place.invariant.read);
}

pub returns-in-Err-clause-read : goal.returns-in-Err-clause-read
returns-in-Err-clause-read c = λ _. directory-none _ _ _ _ _ _ c.loop-place-test.true c.in-Err.ensures.refused c.loop-place.invariant.read

pub returns-then-is_closed-clause-read : goal.returns-then-is_closed-clause-read
returns-then-is_closed-clause-read c = let low = c.args.leader.now.after_directory in directory-closed _ _ _ _ _ _ c.loop-place-test.false (omega arith) (sym c.if-is_closed.ensures) c.loop-place.invariant.read

pub returns-else-is_closed-clause-read : goal.returns-else-is_closed-clause-read
returns-else-is_closed-clause-read c = λ _. directory-open _ _ _ _ _ _ c.loop-place-test.false (sym c.if-is_closed.ensures) c.loop-place.invariant.read
