-- Whether an odd number of elements pass a test, and of the segments round a ring.
use Rattle.std.proofs.Common.{◌≡◌, ℕ, ◌+◌, ◌%◌, Bool, true, false, cond, List, [], ◌∷◌, ◌++◌, map, zip, count_by, refl, sym, ap, ◌∙◌, arith}
use Rattle.std.proofs.lemmas.List.Sums.{sum_by-cons}
use Rattle.plane_geometry.specs.declared.point.Pt.{Pt}
use Rattle.plane_geometry.specs.EvenOdd.{segments, all_segments}

abbrev pub differ : Bool → Bool → Bool
differ true true = false
differ true false = true
differ false b = b

pub differ_comm : (a b : Bool) → differ a b ≡ differ b a
differ_comm true true = refl
differ_comm true false = refl
differ_comm false true = refl
differ_comm false false = refl

pub with_itself : (a : Bool) → differ a a ≡ false
with_itself true = refl
with_itself false = refl

differ_assoc : (a b c : Bool) → differ (differ a b) c ≡ differ a (differ b c)
differ_assoc true true true = refl
differ_assoc true true false = refl
differ_assoc true false true = refl
differ_assoc true false false = refl
differ_assoc false b c = refl

crosswise : (a b c d : Bool) → differ (differ a b) (differ c d) ≡ differ (differ a c) (differ b d)
crosswise a b c d =
    differ_assoc a b (differ c d)
    ∙ ap (differ a) (sym (differ_assoc b c d) ∙ ap (λ (x : Bool). differ x d) (differ_comm b c) ∙ differ_assoc c b d)
    ∙ sym (differ_assoc a c (differ b d))

same_of_differ : (a b : Bool) → differ a b ≡ false → a ≡ b
same_of_differ true true e = refl
same_of_differ true false e = e
same_of_differ false b e = sym e

-- whether an odd number of elements pass
abbrev pub odd : {X : Type 0} → (X → Bool) → List X → Bool
odd f [] = false
odd f (x ∷ xs) = differ (f x) (odd f xs)

one_more : (b : Bool) (n : ℕ) (c : Bool) → n % 2 ≡ cond c 1 0 → (cond b 1 0 + n) % 2 ≡ cond (differ b c) 1 0
one_more true n true e = omega (arith, e)
one_more true n false e = omega (arith, e)
one_more false n true e = omega (arith, e)
one_more false n false e = omega (arith, e)

pub count_odd : {X : Type 0} (f : X → Bool) (xs : List X) → count_by f xs % 2 ≡ cond (odd f xs) 1 0
count_odd f [] = refl
count_odd f (x ∷ xs) =
    ap (λ (n : ℕ). n % 2) (sum_by-cons (λ y. cond (f y) 1 0) x xs) ∙ one_more (f x) (count_by f xs) (odd f xs) (count_odd f xs)

pub odd-map : {X Y : Type 0} (f : Y → Bool) (g : X → Y) (xs : List X) → odd f (map g xs) ≡ odd (λ x. f (g x)) xs
odd-map f g [] = refl
odd-map f g (x ∷ xs) = ap (differ (f (g x))) (odd-map f g xs)

pub odd_alike : {X : Type 0} (f g : X → Bool) → ((x : X) → f x ≡ g x) → (xs : List X) → odd f xs ≡ odd g xs
odd_alike f g e [] = refl
odd_alike f g e (x ∷ xs) = λ i. differ (e x i) (odd_alike f g e xs i)

odd-differ : {X : Type 0} (f g : X → Bool) (xs : List X) → odd (λ x. differ (f x) (g x)) xs ≡ differ (odd f xs) (odd g xs)
odd-differ f g [] = refl
odd-differ f g (x ∷ xs) = ap (differ (differ (f x) (g x))) (odd-differ f g xs) ∙ crosswise (f x) (g x) (odd f xs) (odd g xs)

odd-append : {X : Type 0} (f : X → Bool) (xs ys : List X) → odd f (xs ++ ys) ≡ differ (odd f xs) (odd f ys)
odd-append f [] ys = refl
odd-append f (x ∷ xs) ys = ap (differ (f x)) (odd-append f xs ys) ∙ sym (differ_assoc (f x) (odd f xs) (odd f ys))

-- each element has the property
abbrev pub AllOf : {X : Type 0} → (X → Type 0) → List X → Type 0
AllOf P [] = Unit {0}
AllOf P (x ∷ xs) = P x × AllOf P xs

pub all_then : {X : Type 0} (P Q : X → Type 0) (xs : List X) → ((x : X) → P x → Q x) → AllOf P xs → AllOf Q xs
all_then P Q [] f h = tt
all_then P Q (x ∷ xs) f h = (f x h.0, all_then P Q xs f h.1)

front : {X : Type 0} (P : X → Type 0) (xs ys : List X) → AllOf P (xs ++ ys) → AllOf P xs
front P [] ys h = tt
front P (x ∷ xs) ys h = (h.0, front P xs ys h.1)

back : {X : Type 0} (P : X → Type 0) (xs ys : List X) → AllOf P (xs ++ ys) → AllOf P ys
back P [] ys h = h
back P (x ∷ xs) ys h = back P xs ys h.1

-- the test tells whether the segment's ends are marked differently
abbrev pub TellsMarks : (Pt × Pt → Bool) → (Pt → Bool) → Pt × Pt → Type 0
TellsMarks f mark s = f s ≡ differ (mark s.0) (mark s.1)

-- the segments from x to z change marks an odd number of times where the two are marked differently
along_line : (f : Pt × Pt → Bool) (mark : Pt → Bool) (x z : Pt) (xs : List Pt) → AllOf (TellsMarks f mark) (zip (x ∷ xs) (xs ++ z ∷ [])) → odd f (zip (x ∷ xs) (xs ++ z ∷ [])) ≡ differ (mark x) (mark z)
along_line f mark x z [] all = differ_comm (f (x, z)) false ∙ all.0
along_line f mark x z (y ∷ ys) all =
    (λ i. differ (all.0 i) (along_line f mark y z ys all.1 i))
    ∙ differ_assoc (mark x) (mark y) (differ (mark y) (mark z))
    ∙ ap (differ (mark x)) (sym (differ_assoc (mark y) (mark y) (mark z)) ∙ ap (λ (b : Bool). differ b (mark z)) (with_itself (mark y)))

round_ring : (f : Pt × Pt → Bool) (mark : Pt → Bool) (ring : List Pt) → AllOf (TellsMarks f mark) (segments ring) → odd f (segments ring) ≡ false
round_ring f mark [] all = refl
round_ring f mark (r ∷ rs) all = along_line f mark r r rs all ∙ with_itself (mark r)

-- round closed rings the marks change an even number of times
round_rings : (f : Pt × Pt → Bool) (mark : Pt → Bool) (rings : List (List Pt)) → AllOf (TellsMarks f mark) (all_segments rings) → odd f (all_segments rings) ≡ false
round_rings f mark [] all = refl
round_rings f mark (ring ∷ rings) all =
    odd-append f (segments ring) (all_segments rings)
    ∙ ap (λ (b : Bool). differ b (odd f (all_segments rings))) (round_ring f mark ring (front _ (segments ring) (all_segments rings) all))
    ∙ round_rings f mark rings (back _ (segments ring) (all_segments rings) all)

-- so two tests that differ where the marks change are passed alike
pub passed_alike : (f g : Pt × Pt → Bool) (mark : Pt → Bool) (rings : List (List Pt)) → AllOf (TellsMarks (λ s. differ (f s) (g s)) mark) (all_segments rings) → odd f (all_segments rings) ≡ odd g (all_segments rings)
passed_alike f g mark rings all =
    same_of_differ _ _ (sym (odd-differ f g (all_segments rings)) ∙ round_rings (λ s. differ (f s) (g s)) mark rings all)
