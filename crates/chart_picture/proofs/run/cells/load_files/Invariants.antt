-- The files that are left leave of what is held what all of them leave of nothing.
use Rattle.std.proofs.Common.{◌≡◌, ◌+◌, ◌≤◌, map, drop}
use Rattle.std.specs.Prelude.{IsTrue, string_bytes}
use Rattle.chart_store.specs.Loaded.{nothing_held}
use Rattle.chart_picture.specs.Files.{loads_from}
use Rattle.chart_picture.proofs.run.cells.load_files.Given as goal

abbrev pub invariant-loop-name : goal.invariant-loop-name
invariant-loop-name g l = record {
  counted : l.number ≡ l.name-index;
  stay : IsTrue g.L.Shelf.tells → g.L.Shelf.files l.shelf ≡ g.L.Shelf.files l.initial.shelf;
  later : g.L.Shelf.faults l.initial.shelf ≤ g.L.Shelf.faults l.shelf;
  rest : IsTrue g.L.Shelf.tells →
      loads_from (g.L.Shelf.files l.initial.shelf) l.live (l.number + 1) (map string_bytes (drop l.name-index l.names))
      ≡ loads_from (g.L.Shelf.files l.initial.shelf) nothing_held 1 (map string_bytes l.names);
}
