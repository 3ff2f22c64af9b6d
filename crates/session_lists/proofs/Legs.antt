-- One leg more.
use Rattle.std.proofs.Common.{◌≡◌, ℕ, ◌+◌, ◌-◌, List, [], ◌∷◌, ◌++◌, take, Some, ap, ◌∙◌, arith}
use Rattle.std.specs.List.{slice_get}
use Rattle.std.proofs.lemmas.List.{take_more}
use Rattle.std.proofs.lemmas.Option.{slice_get_within, get_or_from_slice_get}

-- the items up to a place, and the one there, counted from 1
pub one_more : {X : Type 0} (xs : List X) (before : ℕ) (x : X) → slice_get xs ((before + 1) - 1) ≡ Some x → take (before + 1) xs ≡ take before xs ++ x ∷ []
one_more {X} xs before x e =
    let same : before ≡ (before + 1) - 1 = omega arith in
    let there : slice_get xs before ≡ Some x = ap (slice_get xs) same ∙ e in
    take_more xs before x (slice_get_within xs before x there)
    ∙ ap (λ (y : X). take before xs ++ y ∷ []) (get_or_from_slice_get xs before x x there)
