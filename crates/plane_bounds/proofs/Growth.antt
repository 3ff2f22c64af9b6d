-- Boxes that grow point by point.
use Rattle.std.proofs.Common.{◌≡◌, ◌⊎◌, inl, inr, ℕ, zero, suc, ◌+◌, ◌<◌, List, [], ◌∷◌, length, get_or, refl, sym, ap, ◌∙◌, subst, arith}
use Rattle.std.proofs.lemmas.Bool.{cases_lt}
use Rattle.std.specs.List.{All}
use Rattle.std.proofs.lemmas.Int.{ints}
use Rattle.plane_geometry.specs.declared.point.Pt.{Pt}
use Rattle.plane_bounds.specs.declared.bounds.Bounds.{Bounds}
use Rattle.plane_bounds.specs.Bounds.{IsIn, Holds, HasGrown}

pub holds_itself : (b : Bounds) → Holds b b
holds_itself b = record { west = omega (arith, ints); east = omega (arith, ints); south = omega (arith, ints); north = omega (arith, ints) }

pub holds_then : (a b c : Bounds) → Holds b a → Holds c b → Holds c a
holds_then a b c h k = record { west = omega (arith, ints); east = omega (arith, ints); south = omega (arith, ints); north = omega (arith, ints) }

pub still_in : (a b : Bounds) (p : Pt) → Holds b a → IsIn a p → IsIn b p
still_in a b p h k = record { west = omega (arith, ints); east = omega (arith, ints); south = omega (arith, ints); north = omega (arith, ints) }

-- an element at a place that is there, whatever would stand for one that isn't
same_place : {X : Type 0} (xs : List X) (k : ℕ) (d e : X) → k < length xs → get_or xs k d ≡ get_or xs k e
same_place [] k d e lt = absurd (omega (arith, lt))
same_place (x ∷ xs) zero d e lt = refl
same_place (x ∷ xs) (suc k) d e lt = same_place xs k d e (omega (arith, lt))

pub here_any : (b : Bounds) (ring : List Pt) (i : ℕ) (e : Pt) → i < length ring → IsIn b (get_or ring i e) → (d : Pt) → IsIn b (get_or ring i d)
here_any b ring i e lt h d = subst (IsIn b) (same_place ring i e d lt) h

step : (k i : ℕ) → k < i + 1 → (k < i) ⊎ (k ≡ i)
step k i lt = elim (cases_lt k i) [ inl h ↦ inl h | inr h ↦ inr (omega arith) ]

-- one point more
pub points_more : (b grown : Bounds) (ring : List Pt) (i : ℕ) → Holds grown b → i < length ring
    → ((k : ℕ) (d : Pt) → k < i → IsIn b (get_or ring k d)) → ((d : Pt) → IsIn grown (get_or ring i d))
    → (k : ℕ) (d : Pt) → k < i + 1 → IsIn grown (get_or ring k d)
points_more b grown ring i kept within below here k d lt =
    elim (step k i lt) [
      | inl h ↦ still_in b grown _ kept (below k d h)
      | inr e ↦ subst (λ (j : ℕ). IsIn grown (get_or ring j d)) (sym e) (here d)
    ]

-- one ring more
pub rings_more : (b grown : Bounds) (rings : List (List Pt)) (ring : List Pt) (i : ℕ) → i < length rings → ring ≡ get_or rings i ring
    → ((k : ℕ) (d : List Pt) → k < i → All (IsIn b) (get_or rings k d)) → HasGrown b grown ring
    → (k : ℕ) (d : List Pt) → k < i + 1 → All (IsIn grown) (get_or rings k d)
rings_more b grown rings ring i within is below g k d lt =
    elim (step k i lt) [
      | inl h ↦ λ j e jt. still_in b grown _ g.kept (below k d h j e jt)
      | inr e ↦
          let same : get_or rings k d ≡ ring = ap (λ (j : ℕ). get_or rings j d) e ∙ same_place rings i d ring within ∙ sym is in
          subst (All (IsIn grown)) (sym same) g.all
    ]
