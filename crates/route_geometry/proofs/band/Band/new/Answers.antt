use Rattle.std.proofs.Common.{◌∙◌, ◌<◌, ◌^◌, ℤ, pos, ◌+ℤ◌, ◌-ℤ◌, neg_ℤ, unsigned_abs, ap, arith, rules}
use Rattle.std.proofs.lemmas.Int.{ints}
use Rattle.route_geometry.proofs.Casts.{same, plus, minus, negative, negative_same, same_negative, coordinates, bounded}
use Rattle.route_geometry.proofs.Near.{near_between}
use Rattle.route_geometry.proofs.band.Band.new.Goals as goal

pub overflow_sub-result-2 : goal.overflow_sub-result-2
overflow_sub-result-2 c = omega (arith, ints)

pub invariant_of-result : goal.invariant_of-result
invariant_of-result c =
    let reach : unsigned_abs c.from-reach.result < 2 ^ 32 = omega (arith, ints) in
    let apart = c.difference-apart.ensures.bounded in
    let leg_way = c.difference-leg_way.ensures.bounded in
    let segment_way = c.difference-segment_way.ensures.bounded in
    let start = plus c.from-reach.result c.difference-apart.result reach apart in
    let leg = same c.difference-leg_way.result leg_way in
    let segment = negative c.difference-segment_way.result segment_way in
    record { bounded = bounded _ _ _ (omega (arith, ints)) (omega (arith, ints)) (omega (arith, ints)) }

pub invariant_of-result-2 : goal.invariant_of-result-2
invariant_of-result-2 c =
    let reach : unsigned_abs c.from-reach.result < 2 ^ 32 = omega (arith, ints) in
    let apart = c.difference-apart.ensures.bounded in
    let leg_way = c.difference-leg_way.ensures.bounded in
    let segment_way = c.difference-segment_way.ensures.bounded in
    let start = minus c.from-reach.result c.difference-apart.result reach apart in
    let leg = negative c.difference-leg_way.result leg_way in
    let segment = same c.difference-segment_way.result segment_way in
    record { bounded = bounded _ _ _ (omega (arith, ints)) (omega (arith, ints)) (omega (arith, ints)) }

pub invariant_of-result-3 : goal.invariant_of-result-3
invariant_of-result-3 c =
    let reach : unsigned_abs c.from-reach.result < 2 ^ 32 = omega (arith, ints) in
    let apart = c.difference-apart.ensures.bounded in
    let leg_way = c.difference-leg_way.ensures.bounded in
    let segment_way = c.difference-segment_way.ensures.bounded in
    let low = plus c.from-reach.result c.difference-apart.result reach apart in
    let high = minus c.from-reach.result c.difference-apart.result reach apart in
    record {
      opposite = record {
        start = rw (low, high) (omega (arith, ints));
        leg = negative_same c.difference-leg_way.result leg_way;
        segment = same_negative c.difference-segment_way.result segment_way;
      };
    }

pub returns : goal.returns
returns c =
    let reach : unsigned_abs c.from-reach.result < 2 ^ 32 = omega (arith, ints) in
    let apart = c.difference-apart.ensures.bounded in
    let leg_way = c.difference-leg_way.ensures.bounded in
    let segment_way = c.difference-segment_way.ensures.bounded in
    let apart_is = coordinates c.difference-apart.result c.args.leg.from c.args.segment.from (search rules) (search rules) c.difference-apart.ensures.value in
    let leg_is = coordinates c.difference-leg_way.result c.args.leg.to c.args.leg.from (search rules) (search rules) c.difference-leg_way.ensures.value in
    let segment_is = coordinates c.difference-segment_way.result c.args.segment.to c.args.segment.from (search rules) (search rules) c.difference-segment_way.ensures.value in
    λ p. near_between p.d p.t p.s c.args.reach c.args.leg.from c.args.leg.to c.args.segment.from c.args.segment.to _ _ _ _ _ _
    (plus c.from-reach.result c.difference-apart.result reach apart ∙ ap (λ (z : ℤ). z +ℤ c.difference-apart.result) c.from-reach.ensures ∙ ap (λ (z : ℤ). pos c.args.reach +ℤ z) apart_is)
    (same _ leg_way ∙ leg_is)
    (negative _ segment_way ∙ ap neg_ℤ segment_is)
    (minus c.from-reach.result c.difference-apart.result reach apart ∙ ap (λ (z : ℤ). z -ℤ c.difference-apart.result) c.from-reach.ensures ∙ ap (λ (z : ℤ). pos c.args.reach -ℤ z) apart_is)
    (negative _ leg_way ∙ ap neg_ℤ leg_is)
    (same _ segment_way ∙ segment_is)
