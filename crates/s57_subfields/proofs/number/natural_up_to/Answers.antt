use Rattle.std.proofs.Common.{◌∙◌, ap, sym, arith, Some}
use Rattle.std.specs.Prelude.{FitsSigned}
use Rattle.std.specs.Int.{w64}
use Rattle.std.proofs.lemmas.Int.{ints, to_z-of_z}
use Rattle.s57_subfields.proofs.Numbers.{natural_within, natural_over, natural_negative}
use Rattle.s57_subfields.proofs.number.natural_up_to.Goals as goal

pub returns-then-number-lt0-clause-found : goal.returns-then-number-lt0-clause-found
returns-then-number-lt0-clause-found c =
    let fits : FitsSigned w64 c.args.number = c.ranges.number in
    sym (natural_negative c.args.most c.args.number (grind (arith, ints, to_z-of_z)))

pub returns-then-size-from-clause-found : goal.returns-then-size-from-clause-found
returns-then-size-from-clause-found c =
    let fits : FitsSigned w64 c.args.number = c.ranges.number in
    let size = simp to_z-of_z at c.unsigned_abs-size.ensures.value in
    sym (natural_over c.args.most c.args.number (omega (arith, size)))

pub returns-clause-found : goal.returns-clause-found
returns-clause-found c =
    let fits : FitsSigned w64 c.args.number = c.ranges.number in
    let size = simp to_z-of_z at c.unsigned_abs-size.ensures.value in
    ap (λ n. Some n) size ∙ sym (natural_within c.args.most c.args.number (grind (arith, ints, to_z-of_z)) (omega (arith, size)))
