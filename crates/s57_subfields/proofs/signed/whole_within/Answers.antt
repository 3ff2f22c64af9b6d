use Rattle.std.proofs.Common.{◌<◌, ◌≤◌, arith, refl}
use Rattle.std.specs.Prelude.{unsigned_abs, FitsSigned}
use Rattle.std.specs.Int.{w64}
use Rattle.std.proofs.lemmas.Bool.{le-leb, lt-leb}
use Rattle.std.proofs.lemmas.Int.{to_z-of_z}
use Rattle.s57_subfields.proofs.Numbers.{fits_within}
use Rattle.s57_subfields.specs.Signed.{whole_within}
use Rattle.s57_subfields.proofs.signed.whole_within.Goals as goal

pub returns-then-unsigned_abs-from-clause-found : goal.returns-then-unsigned_abs-from-clause-found
unfolding whole_within
returns-then-unsigned_abs-from-clause-found c =
    let fits : FitsSigned w64 c.args.number = c.ranges.number in
    let size = simp to_z-of_z at c.unsigned_abs.ensures.value in
    let over : c.args.most < unsigned_abs c.args.number = omega (arith, size) in
    rw (lt-leb (unsigned_abs c.args.number) c.args.most over) refl

pub returns-clause-found : goal.returns-clause-found
unfolding whole_within
returns-clause-found c =
    let fits : FitsSigned w64 c.args.number = c.ranges.number in
    let size = simp to_z-of_z at c.unsigned_abs.ensures.value in
    let within : unsigned_abs c.args.number ≤ c.args.most = omega (arith, size) in
    rw (le-leb (unsigned_abs c.args.number) c.args.most within) (let small = fits_within c.args.most c.args.number within c.requires in simp to_z-of_z)
