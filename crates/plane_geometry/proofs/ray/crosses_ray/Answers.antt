use Rattle.std.proofs.Common.{sym, ◌∙◌, arith}
use Rattle.std.proofs.lemmas.Int.{ints}
use Rattle.plane_geometry.proofs.Rays.{crosses_rising, crosses_falling, crosses_below, crosses_above, sign_above, sign_below}
use Rattle.plane_geometry.proofs.ray.crosses_ray.Goals as goal

pub returns-then-p-b : goal.returns-then-p-b
returns-then-p-b c =
    sign_above _ _ c.orient.ensures ∙ sym (crosses_rising c.args.p c.args.a c.args.b (omega (arith, ints)) (omega (arith, ints)))

pub returns-else-p-b : goal.returns-else-p-b
returns-else-p-b c =
    c.if-p-b.false ∙ sym (crosses_below c.args.p c.args.a c.args.b (omega (arith, ints)) (omega (arith, ints)))

pub returns-then-b-p : goal.returns-then-b-p
returns-then-b-p c =
    sign_below _ _ c.orient-then-b-p.ensures ∙ sym (crosses_falling c.args.p c.args.a c.args.b (omega (arith, ints)) (omega (arith, ints)))

pub returns-else-b-p : goal.returns-else-b-p
returns-else-b-p c =
    c.if-b-p.false ∙ sym (crosses_above c.args.p c.args.a c.args.b (omega (arith, ints)) (omega (arith, ints)))
