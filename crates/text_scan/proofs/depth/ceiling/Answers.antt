use Rattle.std.proofs.Common.{ℕ, ◌+◌, ◌-◌, ◌*◌, ◌/◌, ap, arith}
use Rattle.std.proofs.lemmas.Int.{ints}
use Rattle.text_scan.proofs.Floors.{ceiling_small, amount_small, unit_small}
use Rattle.text_scan.proofs.depth.ceiling.Goals as goal

pub overflow_mul-result : goal.overflow_mul-result
overflow_mul-result c = omega (arith, amount_small c.args.amount c.args.places c.requires.small c.requires.few)

pub overflow_sub-result : goal.overflow_sub-result
overflow_sub-result c = omega (arith, unit_small c.args.places c.requires.few)

pub overflow_add-result : goal.overflow_add-result
overflow_add-result c =
    omega (arith, amount_small c.args.amount c.args.places c.requires.small c.requires.few, unit_small c.args.places c.requires.few)

pub nonzero_div-result : goal.nonzero_div-result
nonzero_div-result c = omega (arith, unit_small c.args.places c.requires.few)

pub overflow_cast-result : goal.overflow_cast-result
overflow_cast-result c =
    let same = ap (λ (n : ℕ). (100 * c.args.amount + (n - 1)) / n) c.pow-unit.ensures in
    omega (arith, ints, same, ceiling_small c.args.amount c.args.places c.requires.small)

pub returns : goal.returns
returns c =
    let same = ap (λ (n : ℕ). (100 * c.args.amount + (n - 1)) / n) c.pow-unit.ensures in
    omega (arith, ints, same, ceiling_small c.args.amount c.args.places c.requires.small)
