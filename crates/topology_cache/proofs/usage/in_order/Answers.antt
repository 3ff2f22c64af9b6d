use Rattle.std.proofs.Common.{◌&&◌, sym}
use Rattle.std.proofs.lemmas.List.Sorted.{list_any-IsPermutation}
use Rattle.topology_cache.specs.declared.usage.Use.{Use}
use Rattle.topology_cache.specs.Users.{same_name}
use Rattle.topology_cache.proofs.usage.in_order.Goals as goal

pub returns : goal.returns
returns c = λ edge name.
    sym (list_any-IsPermutation (λ (one : Use). same_name one.target edge && same_name one.user name)
    c.args.uses.items c.sort_by_key.new.self.items c.sort_by_key.ensures.permutation)
