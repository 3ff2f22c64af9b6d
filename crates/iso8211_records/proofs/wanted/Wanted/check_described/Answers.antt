use Rattle.iso8211_records.proofs.ListedTags.{described-by}
use Rattle.iso8211_records.proofs.wanted.Wanted.check_described.Goals as goal

pub returns : goal.returns
returns c =
    rw (← c.self.view_is, ← described-by c.self.inside.tags.now c.self.inside.missing.items c.self.inside.descriptors.now c.args.entries.now c.self.invariant.1)
    (rw c.as_slice.ensures.value at c.check_without.ensures)
