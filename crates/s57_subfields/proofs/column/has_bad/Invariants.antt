use Rattle.std.proofs.Common.{◌≡◌, drop}
use Rattle.std.specs.Prelude.{is_none}
use Rattle.std.specs.List.{list_any}
use Rattle.s57_subfields.specs.Tails.{behind}
use Rattle.s57_subfields.proofs.Tails.{groups_under}
use Rattle.s57_subfields.proofs.column.has_bad.Given as goal

-- a bad value of the fields is in those that are left
abbrev pub invariant-loop-field : goal.invariant-loop-field
invariant-loop-field g l =
    list_any (λ group. is_none (behind (g.K.Kind.reads l.kind) l.distance group))
    (groups_under l.tag l.groups.at l.groups.between (drop l.field-index l.field-items))
    ≡ list_any (λ group. is_none (behind (g.K.Kind.reads l.kind) l.distance group))
    (groups_under l.tag l.groups.at l.groups.between l.field-items)
