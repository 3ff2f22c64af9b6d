-- Rings with all sides n times as long.
use Rattle.std.proofs.Common.{◌≡◌, inl, inr, ℕ, ◌*◌, List, [], ◌∷◌, ◌++◌, map, zip, refl, sym, ap, ◌∙◌}
use Rattle.plane_geometry.specs.declared.point.Pt.{Pt}
use Rattle.plane_geometry.specs.EvenOdd.{segments, all_segments}
use Rattle.plane_geometry.proofs.Walk.{AnyOf}
use Rattle.rational_points.specs.RationalPoint.{times, rings_times}
use Rattle.rational_points.proofs.Levels.{times_times}
use Rattle.rational_points.proofs.Parity.{AllOf}

abbrev pub segment_times : ℕ → Pt × Pt → Pt × Pt
segment_times n s = (times n s.0, times n s.1)

zip_times : (n : ℕ) (xs ys : List Pt) → zip (map (times n) xs) (map (times n) ys) ≡ map (segment_times n) (zip xs ys)
zip_times n [] ys = refl
zip_times n (x ∷ xs) [] = refl
zip_times n (x ∷ xs) (y ∷ ys) = ap (λ (ss : List (Pt × Pt)). segment_times n (x, y) ∷ ss) (zip_times n xs ys)

map-append : {X Y : Type 0} (f : X → Y) (xs ys : List X) → map f (xs ++ ys) ≡ map f xs ++ map f ys
map-append f [] ys = refl
map-append f (x ∷ xs) ys = ap (λ zs. f x ∷ zs) (map-append f xs ys)

segments_times : (n : ℕ) (ring : List Pt) → segments (map (times n) ring) ≡ map (segment_times n) (segments ring)
segments_times n [] = refl
segments_times n (r ∷ rs) =
    ap (zip (times n r ∷ map (times n) rs)) (sym (map-append (times n) rs (r ∷ []))) ∙ zip_times n (r ∷ rs) (rs ++ r ∷ [])

pub all_segments_times : (n : ℕ) (rings : List (List Pt)) → all_segments (rings_times n rings) ≡ map (segment_times n) (all_segments rings)
all_segments_times n [] = refl
all_segments_times n (ring ∷ rings) =
    (λ i. segments_times n ring i ++ all_segments_times n rings i)
    ∙ sym (map-append (segment_times n) (segments ring) (all_segments rings))

pub any-map : {X Y : Type 0} (P : Y → Type 0) (f : X → Y) (xs : List X) → AnyOf P (map f xs) → AnyOf (λ x. P (f x)) xs
any-map P f [] h = h
any-map P f (x ∷ xs) (inl h) = inl h
any-map P f (x ∷ xs) (inr h) = inr (any-map P f xs h)

pub map-any : {X Y : Type 0} (P : Y → Type 0) (f : X → Y) (xs : List X) → AnyOf (λ x. P (f x)) xs → AnyOf P (map f xs)
map-any P f [] h = h
map-any P f (x ∷ xs) (inl h) = inl h
map-any P f (x ∷ xs) (inr h) = inr (map-any P f xs h)

pub any_then : {X : Type 0} (P Q : X → Type 0) (xs : List X) → ((x : X) → P x → Q x) → AnyOf P xs → AnyOf Q xs
any_then P Q [] f h = h
any_then P Q (x ∷ xs) f (inl h) = inl (f x h)
any_then P Q (x ∷ xs) f (inr h) = inr (any_then P Q xs f h)

-- what isn't so of any element
pub none_of : {X : Type 0} (P : X → Type 0) (xs : List X) → ¬ AnyOf P xs → AllOf (λ x. ¬ P x) xs
none_of P [] h = tt
none_of P (x ∷ xs) h = (λ p. h (inl p), none_of P xs (λ q. h (inr q)))

-- m times, and then n times as far from the origin
pub times_again : (m n : ℕ) (p : Pt) → times (m * n) p ≡ times m (times n p)
times_again m n p = λ i. record { x = times_times m n p.x i; y = times_times m n p.y i }
