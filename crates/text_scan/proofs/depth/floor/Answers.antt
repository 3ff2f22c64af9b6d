use Rattle.std.proofs.Common.{ℕ, ◌*◌, ◌/◌, ap, arith}
use Rattle.std.proofs.lemmas.Int.{ints}
use Rattle.text_scan.proofs.Floors.{floor_small, amount_small, unit_small}
use Rattle.text_scan.proofs.depth.floor.Goals as goal

pub overflow_mul-result : goal.overflow_mul-result
overflow_mul-result c = omega (arith, amount_small c.args.amount c.args.places c.requires.small c.requires.few)

pub nonzero_div-result : goal.nonzero_div-result
nonzero_div-result c = omega (arith, unit_small c.args.places c.requires.few)

pub overflow_cast-result : goal.overflow_cast-result
overflow_cast-result c =
    let same = ap (λ (n : ℕ). 100 * c.args.amount / n) c.pow.ensures in
    omega (arith, ints, same, floor_small c.args.amount c.args.places c.requires.small)

pub returns : goal.returns
returns c =
    let same = ap (λ (n : ℕ). 100 * c.args.amount / n) c.pow.ensures in
    omega (arith, ints, same, floor_small c.args.amount c.args.places c.requires.small)
