use Rattle.std.proofs.Common.{◌≡◌, List, [], ◌∷◌, ◌-ℤ◌, ℤ, pos, refl, arith, to_z, of_z, w64}
use Rattle.std.specs.Prelude.{neg_ℤ}
use Rattle.std.proofs.lemmas.Int.{ints}
use Rattle.chart_svg.specs.declared.view.Spot.{Spot}
use Rattle.chart_svg.specs.Voyage.{leg_line}
use Rattle.chart_svg.proofs.LegLines.{one_more}
use Rattle.chart_svg.proofs.legs.leg_lines.Goals as goal

pub returns : goal.returns
returns c =
    let view = c.args.view.now in
    let leg = c.args.leg.now in
    let w : ℤ = pos leg.w in
    let h : ℤ = pos leg.h in
    let east : ℤ = to_z w64 (of_z w64 c.from-w.result) in
    let north : ℤ = to_z w64 (of_z w64 c.from-h.result) in
    let west : ℤ = to_z w64 (of_z w64 (pos 0 -ℤ to_z w64 (of_z w64 c.from-w.result))) in
    let south : ℤ = to_z w64 (of_z w64 (pos 0 -ℤ to_z w64 (of_z w64 c.from-h.result))) in
    let to_east : to_z w64 (of_z w64 c.from-w.result) ≡ pos leg.w = omega (arith, ints) in
    let to_north : to_z w64 (of_z w64 c.from-h.result) ≡ pos leg.h = omega (arith, ints) in
    let to_west : to_z w64 (of_z w64 (pos 0 -ℤ to_z w64 (of_z w64 c.from-w.result))) ≡ neg_ℤ (pos leg.w) = omega (arith, ints) in
    let to_south : to_z w64 (of_z w64 (pos 0 -ℤ to_z w64 (of_z w64 c.from-h.result))) ≡ neg_ℤ (pos leg.h) = omega (arith, ints) in
    let one : List (List Spot) = leg_line view leg (pos 0) (pos 0) ∷ [] in
    let two : List (List Spot) = leg_line view leg (pos 0) (pos 0) ∷ leg_line view leg (neg_ℤ w) (neg_ℤ h) ∷ [] in
    let three : List (List Spot) = leg_line view leg (pos 0) (pos 0) ∷ leg_line view leg (neg_ℤ w) (neg_ℤ h) ∷ leg_line view leg w (neg_ℤ h) ∷ [] in
    let four : List (List Spot) = leg_line view leg (pos 0) (pos 0) ∷ leg_line view leg (neg_ℤ w) (neg_ℤ h) ∷ leg_line view leg w (neg_ℤ h) ∷ leg_line view leg w h ∷ [] in
    let first = one_more view leg c.new-lines.result c.push_leg_line.new.lines [] (pos 0) (pos 0) (pos 0) (pos 0) c.in_ok-push_leg_line.ensures c.new-lines.ensures refl refl in
    let second = one_more view leg c.push_leg_line.new.lines c.push_leg_line-2.new.lines one west south (neg_ℤ w) (neg_ℤ h) c.in_ok-push_leg_line-2.ensures first to_west to_south in
    let third = one_more view leg c.push_leg_line-2.new.lines c.push_leg_line-3.new.lines two east south w (neg_ℤ h) c.in_ok-push_leg_line-3.ensures second to_east to_south in
    let fourth = one_more view leg c.push_leg_line-3.new.lines c.push_leg_line-4.new.lines three east north w h c.in_ok-push_leg_line-4.ensures third to_east to_north in
    one_more view leg c.push_leg_line-4.new.lines c.push_leg_line-5.new.lines four west north (neg_ℤ w) h c.in_ok-push_leg_line-5.ensures fourth to_west to_north
