use Rattle.std.proofs.Common.{◌∙◌, ap, ℕ, List, ◌++◌}
use Rattle.chart_symbols.specs.declared.symbol.Symbol.{Symbol}
use Rattle.chart_symbols.specs.Digits.{digits_by}
use Rattle.chart_symbols.specs.Marks.{marks_by}
use Rattle.chart_symbols.proofs.table.named.Goals as goal

pub returns : goal.returns
unfolding digits_by marks_by
returns c =
    c.in_ok-push_marks.ensures
    ∙ ap (λ (l : List (List ℕ × Symbol)). l ++ marks_by c.args.colours.now)
    (c.in_ok-push_places.ensures ∙ ap (λ (l : List (List ℕ × Symbol)). l ++ digits_by c.args.colours.now) c.new-symbols.ensures)
