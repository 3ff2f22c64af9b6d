use Rattle.std.proofs.Common.{List, ℕ, subst, arith}
use Rattle.bank_pair.specs.Saving.{AreSlicesOf}
use Rattle.bank_pair.proofs.pair.Pair.begin_save.Goals as goal

pub invariant_of-save : goal.invariant_of-save
invariant_of-save c =
    let slices = c.slices_of-slices.result in
    record {
      sliced = subst (λ (bytes : List ℕ). AreSlicesOf bytes slices) c.as_slice-2.ensures c.slices_of-slices.ensures;
      within = omega arith;
    }
