-- Lists whose items have numbers, which are counted from 1.
use Rattle.std.specs.Prelude.{ℕ, ◌-◌, ◌≡◌, ◌≢◌, nat_eq, if◌then◌else◌, List, [], ◌∷◌, length, slice_get, slice_set}
use Rattle.std.specs.Prelude.{Option, None, IfSome}
use Rattle.std.specs.List.{remove}

-- the item of this number, where there is one
abbrev pub numbered : {X : Type 0} → ℕ → List X → Option X
numbered number items = if nat_eq number 0 then None else slice_get items (number - 1)

-- the items with another one of this number
abbrev pub with_numbered : {X : Type 0} → ℕ → X → List X → List X
with_numbered number item items = slice_set items (number - 1) item

-- the items without the one of this number: those behind it move down by one
abbrev pub without_numbered : {X : Type 0} → ℕ → List X → List X
without_numbered number items = remove items (number - 1)

-- as many items as before, and each of another number is as before
pub record SameOthers {X : Type 0} (number : ℕ) (before now : List X) : Type 0 where
  pub as_many : length now ≡ length before
  pub others : (other : ℕ) → other ≢ number → numbered other now ≡ numbered other before

-- the relation holds of the item of this number before and now
abbrev pub IsOfNumbered : {X : Type 0} → ℕ → (X → X → Type 0) → List X → List X → Type 0
IsOfNumbered number R before now =
    IfSome (numbered number before) (λ item. IfSome (numbered number now) (λ item'. R item item'))

-- a relation of the items of three lists, place by place
abbrev pub AllZip3 : {A B C : Type 0} → (A → B → C → Type 0) → List A → List B → List C → Type 0
AllZip3 R [] [] [] = Unit {0}
AllZip3 R (x ∷ xs) (y ∷ ys) (z ∷ zs) = R x y z × AllZip3 R xs ys zs
AllZip3 R _ _ _ = ⊥
