use Rattle.std.proofs.Common.{◌≡◌, ◌+◌, drop}
use Rattle.exchange_catalogue.proofs.EntriesSoFar.{behind, entries_from}
use Rattle.exchange_catalogue.proofs.read.read_entries.Given as goal

abbrev pub invariant-loop-index : goal.invariant-loop-index
invariant-loop-index l =
    behind l.entries.items (entries_from l.row (l.index + 1) (drop l.index l.records)) ≡ entries_from l.row 1 l.records
