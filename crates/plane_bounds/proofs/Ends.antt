-- The ends of the segments of rings.
use Rattle.std.proofs.Common.{suc, List, [], ◌∷◌, ◌++◌, zip, arith}
use Rattle.std.specs.List.{All}
use Rattle.plane_geometry.specs.declared.point.Pt.{Pt}
use Rattle.plane_geometry.specs.EvenOdd.{segments, all_segments}

-- each element has the property
abbrev pub AllOf : {X : Type 0} → (X → Type 0) → List X → Type 0
AllOf P [] = Unit {0}
AllOf P (x ∷ xs) = P x × AllOf P xs

pub all_out : {X : Type 0} (P : X → Type 0) (xs : List X) → All P xs → AllOf P xs
all_out P [] h = tt
all_out P (x ∷ xs) h = (h 0 x (omega arith), all_out P xs (λ k d lt. h (suc k) d (omega (arith, lt))))

pub all_append : {X : Type 0} (P : X → Type 0) (xs ys : List X) → AllOf P xs → AllOf P ys → AllOf P (xs ++ ys)
all_append P [] ys h k = k
all_append P (x ∷ xs) ys h k = (h.0, all_append P xs ys h.1 k)

pub all_then : {X : Type 0} (P Q : X → Type 0) (xs : List X) → ((x : X) → P x → Q x) → AllOf P xs → AllOf Q xs
all_then P Q [] f h = tt
all_then P Q (x ∷ xs) f h = (f x h.0, all_then P Q xs f h.1)

abbrev pub Ends : (Pt → Type 0) → Pt × Pt → Type 0
Ends P s = P s.0 × P s.1

pub ends_zip : (P : Pt → Type 0) (xs ys : List Pt) → AllOf P xs → AllOf P ys → AllOf (Ends P) (zip xs ys)
ends_zip P [] ys h k = tt
ends_zip P (x ∷ xs) [] h k = tt
ends_zip P (x ∷ xs) (y ∷ ys) h k = ((h.0, k.0), ends_zip P xs ys h.1 k.1)

pub ends_ring : (P : Pt → Type 0) (ring : List Pt) → AllOf P ring → AllOf (Ends P) (segments ring)
ends_ring P [] h = tt
ends_ring P (r ∷ rs) h = ends_zip P (r ∷ rs) (rs ++ r ∷ []) h (all_append P rs (r ∷ []) h.1 (h.0, tt))

pub ends_rings : (P : Pt → Type 0) (rings : List (List Pt)) → AllOf (All P) rings → AllOf (Ends P) (all_segments rings)
ends_rings P [] h = tt
ends_rings P (ring ∷ rings) h =
    all_append (Ends P) (segments ring) (all_segments rings) (ends_ring P ring (all_out P ring h.0)) (ends_rings P rings h.1)
