use Rattle.std.proofs.Common.{true, refl, sym, ◌∙◌}
use Rattle.std.proofs.lemmas.Bool.{false≢true}
use Rattle.std.proofs.lemmas.Bool.Decides.{same_from_decides}
use Rattle.coverage_points.specs.Cover.{is_covered}
use Rattle.coverage_points.proofs.Covering.{Decides-covered, asked_covers, covered_clear}
use Rattle.coverage_points.proofs.cover.covers.Goals as goal

pub returns-then-inside_even_odd-clause-points : goal.returns-then-inside_even_odd-clause-points
returns-then-inside_even_odd-clause-points c =
    asked_covers c.args.leg.now c.args.rings.now true c.leg_meets_boundary.result
    (λ _. c.inside_even_odd.ensures.0 c.if-inside_even_odd.true, λ _. refl) c.leg_meets_boundary.ensures

pub returns-then-inside_even_odd-clause-tested : goal.returns-then-inside_even_odd-clause-tested
returns-then-inside_even_odd-clause-tested c =
    same_from_decides _ (is_covered c.args.leg.now c.args.rings.now) (returns-then-inside_even_odd-clause-points c)
    (Decides-covered c.args.leg.now c.args.rings.now)

pub returns-else-inside_even_odd-clause-points : goal.returns-else-inside_even_odd-clause-points
returns-else-inside_even_odd-clause-points c = (
  λ e. absurd (false≢true (sym c.if-inside_even_odd.false ∙ e)),
  λ covered. c.inside_even_odd.ensures.1 (covered_clear c.args.leg.now c.args.rings.now covered).0,
)

pub returns-else-inside_even_odd-clause-tested : goal.returns-else-inside_even_odd-clause-tested
returns-else-inside_even_odd-clause-tested c =
    same_from_decides c.inside_even_odd.result (is_covered c.args.leg.now c.args.rings.now) (returns-else-inside_even_odd-clause-points c)
    (Decides-covered c.args.leg.now c.args.rings.now)
