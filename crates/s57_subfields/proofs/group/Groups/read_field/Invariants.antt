use Rattle.std.proofs.Common.{◌≡◌, ◌-◌, ◌++◌, drop, length, map, Some}
use Rattle.std.specs.Prelude.{All}
use Rattle.s57_subfields.specs.Tails.{tails}
use Rattle.s57_subfields.proofs.group.Groups.read_field.Given as goal

-- the groups that are left go behind those that were read
abbrev pub invariant-loop-at : goal.invariant-loop-at
invariant-loop-at g l = record {
  good : All (g.G.Group.holds l.group) l.read.items;
  goes_on : map (λ item. Some item) l.read.items
      ++ map (g.G.Group.reads l.group) (tails l.self.between 0 (drop l.at l.values))
      ≡ map (λ item. Some item) l.initial.read.items
      ++ map (g.G.Group.reads l.group) (tails l.self.between l.self.at l.values);
}

abbrev pub decreases-loop-at : goal.decreases-loop-at
decreases-loop-at g l = length l.values - l.at
