-- The groups of a field, each by the values from its first one on: what stands so many values behind that.
use Rattle.std.specs.List.{flat_map, list_any}
use Rattle.std.specs.Prelude.{◌≡◌, ℕ, zero, suc, true, List, [], ◌∷◌, slice_get, Option, is_none, option_and_then}
use Rattle.iso8211_records.specs.declared.value.Value.{Value}

-- the values from the one behind so many others on, and then from each one behind so many more
abbrev pub tails : {A : Type 0} → ℕ → ℕ → List A → List (List A)
tails between n [] = []
tails between zero (x ∷ xs) = (x ∷ xs) ∷ tails between between xs
tails between (suc n) (x ∷ xs) = tails between n xs

-- the groups of all fields
abbrev pub tails_of : ℕ → ℕ → List (List Value) → List (List Value)
tails_of at between fields = flat_map (λ values. tails between at values) fields

-- one of the answers is nothing
abbrev pub HasNone : {A : Type 0} → List (Option A) → Type 0
HasNone answers = list_any is_none answers ≡ true

-- what the value so far behind the first is read as
abbrev pub behind : {A : Type 0} → (Value → Option A) → ℕ → List Value → Option A
behind read n group = option_and_then read (slice_get group n)
