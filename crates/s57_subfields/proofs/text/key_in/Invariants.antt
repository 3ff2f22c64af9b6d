use Rattle.std.proofs.Common.{◌≡◌, ℕ, List, ◌++◌, length}
use Rattle.s57_subfields.proofs.Dots.{HasNoDot}
use Rattle.s57_subfields.proofs.text.key_in.Given as goal

-- there is no dot behind the front
abbrev pub invariant-loop-front : goal.invariant-loop-front
invariant-loop-front l = (tail : List ℕ) × (l.name ≡ l.front ++ tail) × HasNoDot tail

abbrev pub decreases-loop-front : goal.decreases-loop-front
decreases-loop-front l = length l.front
