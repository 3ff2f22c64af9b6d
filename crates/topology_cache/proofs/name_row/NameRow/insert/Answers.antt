use Rattle.std.proofs.Common.{◌≤◌, length, sym, ap, subst, ◌∙◌}
use Rattle.std.specs.List.{insert}
use Rattle.topology_cache.specs.declared.name_row.NameRow.{NameRow}
use Rattle.topology_cache.specs.Rows.{names_of}
use Rattle.topology_cache.proofs.name_row.NameRow.insert.Goals as goal

pub of-requires : goal.of-requires
of-requires c = subst (λ (row : NameRow). c.args.place ≤ length (names_of row)) c.in-One.is c.requires

pub returns-in-One-clause-ok : goal.returns-in-One-clause-ok
returns-in-One-clause-ok c = c.of.ensures ∙ sym (ap (λ (row : NameRow). insert (names_of row) c.args.place
    c.args.name) c.in-One.is)
