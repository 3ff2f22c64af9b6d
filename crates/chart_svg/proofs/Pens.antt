-- Pens have three parts.
use Rattle.std.proofs.Common.{◌≡◌, ◌≤◌, List, ℕ, [], ◌∷◌, length, None, refl, sym, ap, ◌∙◌, arith}
use Rattle.std.specs.Prelude.{Option}
use Rattle.std.proofs.lemmas.List.Splits.{length-slice_split}
use Rattle.text_lines.specs.Lines.{parts_at}
use Rattle.chart_svg.specs.declared.figure.Pen.{Pen}
use Rattle.chart_svg.specs.declared.look.Look.{Look}
use Rattle.chart_svg.specs.Instruction.{pen_by}

some_part : (text : List ℕ) → 1 ≤ length (parts_at 44 text)
some_part text = omega (arith, length-slice_split)

pen_too_long : (look : Look) (style width token : List ℕ) (more : List (List ℕ)) → 1 ≤ length more → pen_by look (style ∷ width ∷ token ∷ more) ≡ None
unfolding pen_by
pen_too_long look style width token [] some = absurd (omega (arith, some))
pen_too_long look style width token (other ∷ more) some = refl

-- a fourth part
pub no_pen : (look : Look) (parts : List (List ℕ)) (style width token rest : List ℕ) → parts ≡ style ∷ width ∷ token ∷ parts_at 44 rest → None ≡ pen_by look parts
no_pen look parts style width token rest e =
    sym (ap (pen_by look) e ∙ pen_too_long look style width token (parts_at 44 rest) (some_part rest))
