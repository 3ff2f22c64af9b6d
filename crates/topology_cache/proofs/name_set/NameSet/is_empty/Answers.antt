use Rattle.std.proofs.Common.{length, sym, ap, ◌==◌, ◌∙◌}
use Rattle.std.specs.FinMap as finite
use Rattle.topology_cache.proofs.NameSets.{len-set}
use Rattle.topology_cache.proofs.name_set.NameSet.is_empty.Goals as goal

pub returns : goal.returns
returns c =
    c.is_empty.ensures
    ∙ ap (λ n. n == 0) (ap length c.as_slice.ensures ∙ sym (len-set _ c.self.invariant) ∙ ap finite.len c.self.view_is)
