use Rattle.std.proofs.Common.{◌≡◌, ◌++◌, drop, map, Some}
use Rattle.std.specs.Prelude.{All}
use Rattle.s57_subfields.proofs.Tails.{groups_under}
use Rattle.s57_subfields.proofs.group.Groups.read.Given as goal

-- the groups of the fields that are left go behind those that were read
abbrev pub invariant-loop-field : goal.invariant-loop-field
invariant-loop-field g l = record {
  good : All (g.G.Group.holds l.group) l.read.items;
  goes_on : map (λ item. Some item) l.read.items
      ++ map (g.G.Group.reads l.group) (groups_under l.tag l.self.at l.self.between (drop l.field-index l.field-items))
      ≡ map (g.G.Group.reads l.group) (groups_under l.tag l.self.at l.self.between l.field-items);
}
