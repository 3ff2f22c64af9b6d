-- Lists whose items have numbers, once one of them is replaced or taken out.
use Rattle.std.proofs.Common.{◌≡◌, ◌≢◌, ◌⊎◌, ⊎_elim, ℕ, zero, suc, ◌+◌, ◌-◌, ◌<◌, ◌≤◌, nat_eq, false, if◌then◌else◌, arith, List, [], ◌∷◌, map, length, get_or, slice_get, slice_set, replicate, Option, Some, None, IfSome, unwrap_or, refl, sym, ap, subst, ◌∙◌}
use Rattle.std.specs.List.{remove}
use Rattle.std.proofs.lemmas.List.{get_or-set_same, length-set}
use Rattle.std.proofs.lemmas.Bool.Decides.{nat_tests}
use Rattle.std.proofs.lemmas.Option.{none-some, slice_get_past, slice_get_read}
use Rattle.panel_scenes.specs.Numbered.{AllZip3, IsOfNumbered, SameOthers, numbered, with_numbered, without_numbered}

abbrev none : (X : Type 0) → Option X
none X = None

-- the item behind a place
pub numbered-at : {X : Type 0} (number place : ℕ) (xs : List X) (x : X) → number ≡ place + 1 → place < length xs
    → x ≡ get_or xs place x → numbered number xs ≡ Some x
numbered-at {X} number place xs x is below at =
    let e : nat_eq number 0 ≡ false = grind (arith, nat_tests) in
    let p : number - 1 ≡ place = omega arith in
    ap (λ b. if b then none X else slice_get xs (number - 1)) e
    ∙ ap (slice_get xs) p
    ∙ slice_get_read xs (length xs) place x refl below at

-- there is no item of a number that isn't from 1 to the length
pub none-numbered : {X : Type 0} (number : ℕ) (xs : List X) → (number ≡ 0) ⊎ (length xs < number)
    → numbered number xs ≡ None
none-numbered zero xs h = refl
none-numbered {X} (suc i) xs h =
    let e : nat_eq (suc i) 0 ≡ false = grind (arith, nat_tests) in
    let within : length xs ≤ suc i - 1 = ⊎_elim (λ z. absurd (omega arith)) (λ over. omega arith) h in
    ap (λ b. if b then none X else slice_get xs (suc i - 1)) e ∙ slice_get_past xs (suc i - 1) within

other-place : {X : Type 0} (xs : List X) (i j : ℕ) (x : X) → j ≢ i → slice_get (slice_set xs i x) j ≡ slice_get xs j
other-place [] i j x n = refl
other-place (y ∷ xs) zero zero x n = absurd (n refl)
other-place (y ∷ xs) zero (suc j) x n = refl
other-place (y ∷ xs) (suc i) zero x n = refl
other-place (y ∷ xs) (suc i) (suc j) x n = other-place xs i j x (λ e. n (ap suc e))

other-number : {X : Type 0} (other number place : ℕ) (xs : List X) (x : X) → number ≡ place + 1 → other ≢ number
    → numbered other (slice_set xs place x) ≡ numbered other xs
other-number zero number place xs x is differs = refl
other-number {X} (suc j) number place xs x is differs =
    let e : nat_eq (suc j) 0 ≡ false = grind (arith, nat_tests) in
    let p : suc j - 1 ≡ j = omega arith in
    let here : number ≡ suc place = omega (arith, is) in
    (λ i. if e i then none X else slice_get (slice_set xs place x) (p i))
    ∙ other-place xs place j x (λ same. differs (ap suc same ∙ sym here))
    ∙ sym (λ i. if e i then none X else slice_get xs (p i))

-- the items of other numbers stay where the item of a place is replaced
pub others-same : {X : Type 0} (number place : ℕ) (xs ys : List X) (y : X) → number ≡ place + 1
    → ys ≡ slice_set xs place y → SameOthers number xs ys
others-same {X} number place xs ys y is made = record {
  as_many = ap length made ∙ length-set xs place y;
  others =
      λ other differs.
      ap (numbered other) made ∙ other-number other number place xs y is differs;
}

-- the relation of an item before and after it is replaced
pub of-replaced : {X : Type 0} (number place : ℕ) (R : X → X → Type 0) (xs : List X) (x x' : X) → number ≡ place + 1
    → place < length xs → x ≡ get_or xs place x → R x x' → IsOfNumbered number R xs (slice_set xs place x')
of-replaced number place R xs x x' is below at r =
    subst (λ o. IfSome o (λ item. IfSome (numbered number (slice_set xs place x')) (λ item'. R item item')))
    (sym (numbered-at number place xs x is below at))
    (subst (λ o. IfSome o (λ item'. R x item'))
    (sym
    (numbered-at number place (slice_set xs place x') x' is (subst (λ n. place < n) (sym (length-set xs place x')) below)
    (sym (get_or-set_same xs place x' x' below))))
    r)

-- the relation holds on where one item each of the last two lists is replaced
zip3-set : {A B C : Type 0} (Q R : A → B → C → Type 0) (xs : List A) (ys : List B) (zs : List C) (i : ℕ)
    → (y y' : B) (z z' : C) → i < length ys → y ≡ get_or ys i y → i < length zs → z ≡ get_or zs i z
    → ((x : A) → Q x y z → R x y z → R x y' z') → AllZip3 Q xs ys zs → AllZip3 R xs ys zs
    → AllZip3 R xs (slice_set ys i y') (slice_set zs i z')
zip3-set Q R [] [] [] i y y' z z' below at below' at' step q r = r
zip3-set Q R [] [] (c ∷ zs) i y y' z z' below at below' at' step q r = absurd r
zip3-set Q R [] (b ∷ ys) zs i y y' z z' below at below' at' step q r = absurd r
zip3-set Q R (a ∷ xs) [] zs i y y' z z' below at below' at' step q r = absurd r
zip3-set Q R (a ∷ xs) (b ∷ ys) [] i y y' z z' below at below' at' step q r = absurd r
zip3-set Q R (a ∷ xs) (b ∷ ys) (c ∷ zs) zero y y' z z' below at below' at' step q r = (
  step a (subst (λ it. Q a it z) (sym at) (subst (λ it. Q a b it) (sym at') q.0))
      (subst (λ it. R a it z) (sym at) (subst (λ it. R a b it) (sym at') r.0)),
  r.1,
)
zip3-set Q R (a ∷ xs) (b ∷ ys) (c ∷ zs) (suc i) y y' z z' below at below' at' step q r =
    (r.0, zip3-set Q R xs ys zs i y y' z z' (omega arith) at (omega arith) at' step q.1 r.1)

-- so too where the last list is known by another name
pub zip3-replaced : {A B C : Type 0} (Q R : A → B → C → Type 0) (xs : List A) (ys : List B) (zs zs₀ : List C) (i : ℕ)
    → (y y' : B) (z z' : C) → zs ≡ zs₀ → i < length ys → y ≡ get_or ys i y → i < length zs₀ → z ≡ get_or zs i z
    → ((x : A) → Q x y z → R x y z → R x y' z') → AllZip3 Q xs ys zs₀ → AllZip3 R xs ys zs₀
    → AllZip3 R xs (slice_set ys i y') (slice_set zs i z')
zip3-replaced Q R xs ys zs zs₀ i y y' z z' same below at below' at' step q r =
    zip3-set Q R xs ys zs i y y' z z' below at (subst (λ l. i < length l) (sym same) below') at' step
    (subst (λ l. AllZip3 Q xs ys l) (sym same) q) (subst (λ l. AllZip3 R xs ys l) (sym same) r)

-- the place of an item that is there
place-of : {X : Type 0} (number : ℕ) (xs : List X) (x : X) → numbered number xs ≡ Some x
    → slice_get xs (number - 1) ≡ Some x
place-of zero xs x is = absurd (none-some x is)
place-of {X} (suc i) xs x is =
    let e : nat_eq (suc i) 0 ≡ false = grind (arith, nat_tests) in
    sym (ap (λ b. if b then none X else slice_get xs (suc i - 1)) e) ∙ is

zip3-last : {A B C : Type 0} (R : A → B → C → Type 0) (xs : List A) (ys : List B) (zs : List C) (i : ℕ) (z z' : C)
    → slice_get zs i ≡ Some z → ((x : A) (y : B) → R x y z → R x y z') → AllZip3 R xs ys zs
    → AllZip3 R xs ys (slice_set zs i z')
zip3-last R [] [] [] i z z' is step r = r
zip3-last R [] [] (c ∷ zs) i z z' is step r = absurd r
zip3-last R [] (b ∷ ys) zs i z z' is step r = absurd r
zip3-last R (a ∷ xs) [] zs i z z' is step r = absurd r
zip3-last R (a ∷ xs) (b ∷ ys) [] i z z' is step r = absurd r
zip3-last R (a ∷ xs) (b ∷ ys) (c ∷ zs) zero z z' is step r =
    (step a b (subst (λ it. R a b it) (ap (λ o. unwrap_or o z) is) r.0), r.1)
zip3-last R (a ∷ xs) (b ∷ ys) (c ∷ zs) (suc i) z z' is step r = (r.0, zip3-last R xs ys zs i z z' is step r.1)

-- where an item of the last list alone is replaced
pub zip3-renumbered : {A B C : Type 0} (R : A → B → C → Type 0) (number : ℕ) (xs : List A) (ys : List B) (zs : List C)
    → (z z' : C) → numbered number zs ≡ Some z → ((x : A) (y : B) → R x y z → R x y z') → AllZip3 R xs ys zs
    → AllZip3 R xs ys (with_numbered number z' zs)
zip3-renumbered R number xs ys zs z z' is step r =
    zip3-last R xs ys zs (number - 1) z z' (place-of number zs z is) step r

-- and where the items of one place are taken out
pub zip3-remove : {A B C : Type 0} (R : A → B → C → Type 0) (xs : List A) (ys : List B) (zs : List C) (i : ℕ)
    → AllZip3 R xs ys zs → AllZip3 R (remove xs i) (remove ys i) (remove zs i)
zip3-remove R [] [] [] zero r = r
zip3-remove R [] [] [] (suc i) r = r
zip3-remove R [] [] (c ∷ zs) i r = absurd r
zip3-remove R [] (b ∷ ys) zs i r = absurd r
zip3-remove R (a ∷ xs) [] zs i r = absurd r
zip3-remove R (a ∷ xs) (b ∷ ys) [] i r = absurd r
zip3-remove R (a ∷ xs) (b ∷ ys) (c ∷ zs) zero r = r.1
zip3-remove R (a ∷ xs) (b ∷ ys) (c ∷ zs) (suc i) r = (r.0, zip3-remove R xs ys zs i r.1)

pub zip3-without : {A B C : Type 0} (R : A → B → C → Type 0) (number place : ℕ) (xs : List A) (ys ys' : List B)
    → (zs zs' : List C) → number ≡ place + 1 → ys' ≡ remove ys place → zs' ≡ remove zs place → AllZip3 R xs ys zs
    → AllZip3 R (without_numbered number xs) ys' zs'
zip3-without R number place xs ys ys' zs zs' is fewer fewer' r =
    let p : number - 1 ≡ place = omega (arith, is) in
    subst (λ k. AllZip3 R (remove xs k) ys' zs') (sym p)
    (subst (λ it. AllZip3 R (remove xs place) it zs') (sym fewer)
    (subst (λ it. AllZip3 R (remove xs place) (remove ys place) it) (sym fewer') (zip3-remove R xs ys zs place r)))

-- what is read of an item
pub read-at : {X Y : Type 0} (number place : ℕ) (xs : List X) (x : X) (f : Option X → Y) → number ≡ place + 1
    → place < length xs → x ≡ get_or xs place x → f (Some x) ≡ f (numbered number xs)
read-at number place xs x f is below at = ap f (sym (numbered-at number place xs x is below at))

-- what holds of each item, with what is made of it and with one value for all
pub zip3-made : {A B C : Type 0} (R : A → B → C → Type 0) (f : B → A) (z : C) → ((y : B) → R (f y) y z)
    → (ys : List B) → AllZip3 R (map f ys) ys (replicate (length ys) z)
zip3-made R f z all [] = tt
zip3-made R f z all (y ∷ ys) = (all y, zip3-made R f z all ys)
