-- What a bank holds.
use Rattle.std.specs.Prelude.{ℕ, List}

-- a checkpoint, and the bodies of the records behind it, in the order in which they were appended
pub record Content : Type 0 where
  pub checkpoint : List ℕ
  pub bodies : List (List ℕ)
