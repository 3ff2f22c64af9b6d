-- Names in a row, wherever they stand.
use Rattle.std.specs.Prelude.{List, [], ◌∷◌}
use Rattle.chart_model.specs.declared.name.Name.{Name}
use Rattle.topology_cache.specs.declared.name_row.NameRow.{NameRow}
use Rattle.topology_cache.specs.declared.name_row.NameRow.TheVariants.{Empty, One, Two, Many}

abbrev pub names_of : NameRow → List Name
names_of Empty = []
names_of (One name) = name ∷ []
names_of (Two pair) = pair.names
names_of (Many names) = names.items
