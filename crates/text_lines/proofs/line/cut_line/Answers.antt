use Rattle.std.proofs.Common.{List, ℕ, ◌∷◌, length, sym, ap, ◌∙◌, arith}
use Rattle.std.specs.Prelude.{take, drop, ◌+◌, ◌-◌}
use Rattle.std.specs.Str.Lines.{lines}
use Rattle.std.proofs.lemmas.Bool.Decides.{nat_tests}
use Rattle.text_lines.proofs.Parting.{line_cut, last_line}
use Rattle.text_lines.proofs.line.cut_line.Goals as goal

pub returns-in-Some-clause-line : goal.returns-in-Some-clause-line
returns-in-Some-clause-line c =
    let bytes = c.args.bytes.now in
    let at = c.in-Some.at in
    line_cut bytes at (sym c.place_of_line_feed.ensures ∙ c.in-Some.is)
    ∙ ap (λ (l : List ℕ). l ∷ lines (take (length bytes - (at + 1)) (drop (at + 1) bytes))) (sym c.without_carriage_return.ensures)

pub returns-in-None-clause-line : goal.returns-in-None-clause-line
returns-in-None-clause-line c =
    last_line c.args.bytes.now (sym c.place_of_line_feed.ensures ∙ c.in-None.is) (grind (arith, nat_tests))
