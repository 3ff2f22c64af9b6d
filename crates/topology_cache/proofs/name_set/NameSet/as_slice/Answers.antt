use Rattle.std.proofs.Common.{sym, ap, ◌∙◌}
use Rattle.std.specs.FinMap as finite
use Rattle.topology_cache.proofs.NameSets.{keys-set}
use Rattle.topology_cache.proofs.name_set.NameSet.as_slice.Goals as goal

pub returns : goal.returns
returns c = c.as_slice.ensures ∙ sym (keys-set _ c.self.invariant) ∙ ap finite.keys c.self.view_is
