use Rattle.std.proofs.Common.{arith}
use Rattle.iso8211_leader.specs.Entry.{entry_of}
use Rattle.iso8211_leader.proofs.Tag.{take-four}
use Rattle.iso8211_leader.proofs.reading.entry_in.Goals as goal

pub returns : goal.returns
unfolding entry_of
returns c = let tag = take-four c.args.text.now (omega arith) in (
  record {
    whole = c.requires;
    length_in_digits = c.in_ok-length.ensures.value.0;
    position_in_digits = c.in_ok-position.ensures.value.0;
  },
  cc (c.in_ok-length.ensures.value.1, c.in_ok-position.ensures.value.1),
)
