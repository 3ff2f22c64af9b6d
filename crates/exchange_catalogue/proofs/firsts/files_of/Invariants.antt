use Rattle.std.proofs.Common.{◌≡◌, ◌++◌, map}
use Rattle.exchange_catalogue.specs.Firsts.{file_of}
use Rattle.exchange_catalogue.proofs.firsts.files_of.Given as goal

abbrev pub invariant-loop-path : goal.invariant-loop-path
invariant-loop-path l = l.files.items ++ map file_of l.path-iterator ≡ map file_of l.fn.ranks.entries
