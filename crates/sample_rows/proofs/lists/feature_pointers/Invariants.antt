use Rattle.std.proofs.Common.{◌≡◌, All}
use Rattle.sample_rows.proofs.lists.feature_pointers.Given as goal

abbrev pub invariant-loop-at : goal.invariant-loop-at
invariant-loop-at l = All (λ pointer. pointer.topi ≡ 255) l.pointers
