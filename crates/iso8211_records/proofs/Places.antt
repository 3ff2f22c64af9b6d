-- Going over the entries of a directory, with the place of each.
use Rattle.std.proofs.Common.{◌≡◌, ℕ, zero, suc, ◌+◌, ◌*◌, ◌≤◌, ◌<◌, Bool, true, false, List, [], ◌∷◌, ◌++◌, length, get_or, take, drop, Option, Some, None, refl, sym, ◌∙◌, add-one, arith, drop-cons}
use Rattle.std.proofs.Math.Nat.{mul-le-mul_left}
use Rattle.std.proofs.lemmas.List.{length-append}
use Rattle.std.specs.List.{AllByRecursion}
use Rattle.std.proofs.Math.ListN.{drop_of_length-le}
use Rattle.iso8211_leader.specs.declared.entry.Entry.{Entry}
use Rattle.iso8211_records.specs.Reading.{place_without, first_without}

-- what holds of each holds at a place
pub each-at : {A : Type 0} (P : A → Type 0) (xs : List A) (i : ℕ) (d : A) → AllByRecursion P xs → i < length xs → P (get_or xs i d)
each-at P [] i d h inside = absurd (omega arith)
each-at P (x ∷ xs) zero d h inside = h.0
each-at P (x ∷ xs) (suc i) d h inside = each-at P xs i d h.1 (omega arith)

-- what held of each below a place, and holds at it
pub each-push : {A : Type 0} (P : A → Type 0) (xs : List A) (i : ℕ) (d : A) → i < length xs → AllByRecursion P (take i xs) → P (get_or xs i d) → AllByRecursion P (take (i + 1) xs)
each-push P [] i d inside h k = absurd (omega arith)
each-push P (x ∷ xs) zero d inside h k = (k, tt)
each-push P (x ∷ xs) (suc i) d inside h k = let e : suc i + 1 ≡ suc (i + 1) = omega arith in rw e (h.0, each-push P xs i d (omega arith) h.1 k)

-- the entry at the index fails
pub place-here : (passes : Entry → Bool) (size place : ℕ) (entries : List Entry) (i : ℕ) (d : Entry) (total : Option ℕ) → i < length entries → passes (get_or entries i d) ≡ false
    → place_without passes size place (drop i entries) ≡ total → total ≡ Some place
place-here passes size place entries i d total inside fails so_far = sym so_far ∙ rw (drop-cons entries i d inside, fails) refl

-- or passes
pub place-later : (passes : Entry → Bool) (size place : ℕ) (entries : List Entry) (i : ℕ) (d : Entry) (total : Option ℕ) → i < length entries → passes (get_or entries i d) ≡ true
    → place_without passes size place (drop i entries) ≡ total → place_without passes size (place + size) (drop (i + 1) entries) ≡ total
place-later passes size place entries i d total inside passed so_far =
    let step : place_without passes size place (drop i entries) ≡ place_without passes size (place + size) (drop (suc i) entries) = rw (drop-cons entries i d inside, passed) refl in
    rw add-one (sym step ∙ so_far)

pub place-none : (passes : Entry → Bool) (size place : ℕ) (entries : List Entry) (i : ℕ) (total : Option ℕ) → length entries ≤ i → place_without passes size place (drop i entries) ≡ total → total ≡ None
place-none passes size place entries i total done so_far = sym so_far ∙ rw (drop_of_length-le entries done) refl

-- the same without places
pub first-here : (passes : Entry → Bool) (entries : List Entry) (i : ℕ) (d : Entry) (total : Option Entry) → i < length entries → passes (get_or entries i d) ≡ false
    → first_without passes (drop i entries) ≡ total → total ≡ Some (get_or entries i d)
first-here passes entries i d total inside fails so_far = sym so_far ∙ rw (drop-cons entries i d inside, fails) refl

pub first-later : (passes : Entry → Bool) (entries : List Entry) (i : ℕ) (d : Entry) (total : Option Entry) → i < length entries → passes (get_or entries i d) ≡ true
    → first_without passes (drop i entries) ≡ total → first_without passes (drop (i + 1) entries) ≡ total
first-later passes entries i d total inside passed so_far =
    let step : first_without passes (drop i entries) ≡ first_without passes (drop (suc i) entries) = rw (drop-cons entries i d inside, passed) refl in
    rw add-one (sym step ∙ so_far)

pub first-none : (passes : Entry → Bool) (entries : List Entry) (i : ℕ) (total : Option Entry) → length entries ≤ i → first_without passes (drop i entries) ≡ total → total ≡ None
first-none passes entries i total done so_far = sym so_far ∙ rw (drop_of_length-le entries done) refl

-- an entry's place lies before the base address
pub place-low : (size count i base place : ℕ) → i < count → 25 + size * count ≤ base → place ≡ 24 + size * i → place + size < base
place-low size count i base place inside few is =
    let more : size * (i + 1) ≤ size * count = mul-le-mul_left size (omega arith) in
    let sum : size * (i + 1) ≡ size * i + size = grind arith in
    omega arith

pub place-next : (size i place : ℕ) → place ≡ 24 + size * i → place + size ≡ 24 + size * (i + 1)
place-next size i place is = grind arith

-- a list of one more
pub place-push : {A : Type 0} (size place : ℕ) (xs : List A) (x : A) → place ≡ 24 + size * length xs → place + size ≡ 24 + size * length (xs ++ x ∷ [])
place-push size place xs x is = let len : length (xs ++ x ∷ []) ≡ length xs + 1 = length-append xs (x ∷ []) in rw len (place-next size (length xs) place is)
