use Rattle.std.proofs.Common.{◌≡◌, ◌++◌, take, map}
use Rattle.chart_symbols.specs.Marks.{mark_symbol}
use Rattle.chart_symbols.proofs.marks.push_marks.Given as goal

abbrev pub invariant-loop-name : goal.invariant-loop-name
invariant-loop-name l =
    l.symbols ≡ l.initial.symbols ++ map (λ mark. mark_symbol l.colours mark.0 mark.1.now mark.2.now) (take l.name-index l.marks)
