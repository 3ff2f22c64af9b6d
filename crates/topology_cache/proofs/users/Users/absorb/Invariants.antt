use Rattle.std.proofs.Common.{◌≡◌, ◌+◌, length, take}
use Rattle.topology_cache.specs.Users.{feature_names}
use Rattle.topology_cache.specs.Sets.{AreBetween}
use Rattle.topology_cache.proofs.users.Users.absorb.Given as goal

abbrev pub invariant-loop-name : goal.invariant-loop-name
invariant-loop-name g l = record {
  between : AreBetween l.old l.new (take l.name-index l.names) l.self;
  counted : l.steps ≡ l.initial.steps + length (feature_names (take l.name-index l.names));
}
