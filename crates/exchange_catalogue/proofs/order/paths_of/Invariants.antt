use Rattle.std.proofs.Common.{◌≡◌, ℕ, List, ◌++◌, map}
use Rattle.std.specs.Vec.Iter.{into_iter_items}
use Rattle.exchange_catalogue.specs.declared.cell_file.CellFile.{CellFile}
use Rattle.exchange_catalogue.proofs.order.paths_of.Given as goal

abbrev path_in : CellFile → List ℕ
path_in file = file.path

abbrev pub invariant-loop-file : goal.invariant-loop-file
invariant-loop-file l = l.paths.items ++ map path_in (into_iter_items l.file-iterator) ≡ map path_in l.fn.files.items
