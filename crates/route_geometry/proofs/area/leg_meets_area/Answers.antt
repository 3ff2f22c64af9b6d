use Rattle.std.proofs.Common.{inr, false, sym, ◌∙◌}
use Rattle.std.proofs.lemmas.Bool.{false≢true}
use Rattle.route_geometry.proofs.AreaPoints.{as_asked, met_reaches}
use Rattle.route_geometry.proofs.area.leg_meets_area.Goals as goal

pub returns-then-inside_even_odd-clause-points : goal.returns-then-inside_even_odd-clause-points
returns-then-inside_even_odd-clause-points c = (
  λ _. met_reaches c.args.leg.now c.args.rings.now (inr (c.inside_even_odd.ensures.0 c.if-inside_even_odd.true)),
  λ _. c.if-inside_even_odd.true,
)

pub returns-else-inside_even_odd-clause-points : goal.returns-else-inside_even_odd-clause-points
returns-else-inside_even_odd-clause-points c =
    as_asked c.args.leg.now c.args.rings.now false c.leg_meets_boundary.result
    (λ e. absurd (false≢true e), λ inside. absurd (false≢true (sym c.if-inside_even_odd.false ∙ c.inside_even_odd.ensures.1 inside)))
    c.leg_meets_boundary.ensures
