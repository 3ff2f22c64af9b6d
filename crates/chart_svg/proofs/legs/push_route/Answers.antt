use Rattle.std.proofs.Common.{◌≡◌, ℕ, ◌+◌, ◌-◌, List, [], ◌∷◌, ◌++◌, length, take, map, Some, sym, ap, ◌∙◌, arith, append_assoc}
use Rattle.std.specs.List.{slice_get, enumerate_from}
use Rattle.route_check.specs.Route.{legs_of}
use Rattle.chart_svg.specs.declared.element.Element.{Element}
use Rattle.chart_svg.specs.Voyage.{leg_element}
use Rattle.chart_svg.proofs.Counting.{counted_more, counted_all}
use Rattle.chart_svg.proofs.legs.push_route.Goals as goal

pub loop-before-preserved : goal.loop-before-preserved
loop-before-preserved c =
    let out = c.args.elements.now in
    let made = leg_element c.args.view.now c.args.look.now in
    let legs = legs_of c.args.route.now in
    let n = c.loop-before.before in
    let leg = c.leg-leg.result in
    let same : n ≡ n + 1 - 1 = omega arith in
    let there : slice_get legs n ≡ Some leg = ap (slice_get legs) same ∙ c.leg-leg.ensures in
    c.in_ok-push.ensures.ok
    ∙ ap (λ (element : Element). c.loop-before.elements ++ element ∷ []) c.in_ok-leg_element.ensures
    ∙ ap (λ (l : List Element). l ++ made (n + 1, leg) ∷ []) c.loop-before.invariant
    ∙ append_assoc out (map made (take n (enumerate_from 1 legs))) (made (n + 1, leg) ∷ [])
    ∙ ap (λ (l : List Element). out ++ l) (sym (counted_more made legs n leg there))

pub returns : goal.returns
returns c =
    let legs = legs_of c.args.route.now in
    let whole : c.loop-before.before ≡ length legs = omega arith in
    c.loop-before.invariant
    ∙ ap (λ (l : List Element). c.args.elements.now ++ l)
    (counted_all (leg_element c.args.view.now c.args.look.now) legs c.loop-before.before whole)
