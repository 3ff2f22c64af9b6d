-- Items that are added one after the other.
use Rattle.std.proofs.Common.{◌≡◌, List, ◌++◌, append_assoc, ap, ◌∙◌}
use Rattle.std.specs.Prelude.{Result, Ok, Err, OnOk}

-- some behind others
pub joined : {X : Type 0} (old mid new xs ys all : List X) → mid ≡ old ++ xs → new ≡ mid ++ ys → xs ++ ys ≡ all → new ≡ old ++ all
joined {X} old mid new xs ys all e f g =
    f ∙ ap (λ (l : List X). l ++ ys) e ∙ append_assoc old xs ys ∙ ap (λ (l : List X). old ++ l) g

-- the same, where the last may have failed
pub joined_last : {X A E : Type 0} (r : Result A E) (old mid new xs ys all : List X) → mid ≡ old ++ xs → OnOk r (new ≡ mid ++ ys) → xs ++ ys ≡ all → OnOk r (new ≡ old ++ all)
joined_last (Ok v) old mid new xs ys all e f g = joined old mid new xs ys all e f g
joined_last (Err v) old mid new xs ys all e f g = tt
