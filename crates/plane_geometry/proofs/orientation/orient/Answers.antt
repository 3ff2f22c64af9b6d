use Rattle.std.proofs.Common.{◌≡◌, ◌-ℤ◌, ◌*ℤ◌, arith, to_z, of_z, w64}
use Rattle.std.proofs.lemmas.Int.{ints}
use Rattle.plane_geometry.proofs.Casts.{sign_of_difference}
use Rattle.plane_geometry.proofs.orientation.orient.Goals as goal

pub overflow_sub-ahead : goal.overflow_sub-ahead
overflow_sub-ahead c = omega (arith, ints)

pub returns : goal.returns
returns c =
    let a = c.args.a in
    let b = c.args.b in
    let p = c.args.c in
    let right : to_z w64 (of_z w64 c.span.result) ≡ b.x -ℤ a.x = omega (arith, ints) in
    let up : to_z w64 (of_z w64 c.span-2.result) ≡ p.y -ℤ a.y = omega (arith, ints) in
    let rise : to_z w64 (of_z w64 c.span-3.result) ≡ b.y -ℤ a.y = omega (arith, ints) in
    let over : to_z w64 (of_z w64 c.span-4.result) ≡ p.x -ℤ a.x = omega (arith, ints) in
    let ahead : c.product-ahead.result ≡ (b.x -ℤ a.x) *ℤ (p.y -ℤ a.y) = rw (right, up) at c.product-ahead.ensures.value in
    let back : c.product-back.result ≡ (b.y -ℤ a.y) *ℤ (p.x -ℤ a.x) = rw (rise, over) at c.product-back.ensures.value in
    sign_of_difference _ _ _ _ _ ahead back c.product-ahead.ensures.bounded c.product-back.ensures.bounded c.signum.ensures.value c.signum.ensures.lower_bound c.signum.ensures.upper_bound
