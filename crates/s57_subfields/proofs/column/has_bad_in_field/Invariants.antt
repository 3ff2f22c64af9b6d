use Rattle.std.proofs.Common.{◌≡◌, ◌-◌, drop, length}
use Rattle.std.specs.Prelude.{is_none}
use Rattle.std.specs.List.{list_any}
use Rattle.s57_subfields.specs.Tails.{behind, tails}
use Rattle.s57_subfields.proofs.column.has_bad_in_field.Given as goal

-- a bad value of the field is in the groups that are left
abbrev pub invariant-loop-at : goal.invariant-loop-at
invariant-loop-at g l =
    list_any (λ group. is_none (behind (g.K.Kind.reads l.kind) l.distance group)) (tails l.groups.between 0 (drop l.at l.values))
    ≡ list_any (λ group. is_none (behind (g.K.Kind.reads l.kind) l.distance group)) (tails l.groups.between l.groups.at l.values)

abbrev pub decreases-loop-at : goal.decreases-loop-at
decreases-loop-at g l = length l.values - l.at
