use Rattle.std.proofs.Common.{ap, ◌∙◌}
use Rattle.std.specs.FinMap.{insert}
use Rattle.colour_table.proofs.NamedTables.{insert-table}
use Rattle.colour_table.proofs.named.NamedMap.insert.Goals as goal

pub returns-in-Ok : goal.returns-in-Ok
returns-in-Ok g c =
    insert-table _ _ c.args.name c.args.value c.in-Ok.ensures.updates.1 c.in-Ok.ensures.updates.3
    ∙ ap (λ m. insert m c.args.name.items c.args.value) c.self.view_is
