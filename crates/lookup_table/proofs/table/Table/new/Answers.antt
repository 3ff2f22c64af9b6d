use Rattle.std.proofs.Common.{ℕ, List, ap, ◌∙◌}
use Rattle.lookup_table.specs.Places.{places_in}
use Rattle.lookup_table.proofs.Indexes.{no_places}
use Rattle.lookup_table.proofs.table.Table.new.Goals as goal

pub invariant_of-result : goal.invariant_of-result
invariant_of-result c = λ class geom.
    ap (λ (l : List (ℕ × List ℕ)). places_in l class) (c.new-2.ensures geom) ∙ no_places class geom c.new.result.items c.new.ensures.items
