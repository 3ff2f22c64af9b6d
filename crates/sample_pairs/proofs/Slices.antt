-- The slices of a save that begins.
use Rattle.std.proofs.Common.{ℕ, ◌<◌, List, inl, inr, arith}
use Rattle.std.proofs.lemmas.Bool.{cases_lt}
use Rattle.bank_pair.specs.Saving.{AreSlicesOf}

-- the header alone takes a slice
pub some_slice : (checkpoint : List ℕ) (slices : ℕ) → AreSlicesOf checkpoint slices → 0 < slices
some_slice checkpoint slices are =
    elim (cases_lt 0 slices) [
      | inl some ↦ some
      | inr none ↦ absurd (omega (arith, (are 0).1 none))
    ]
