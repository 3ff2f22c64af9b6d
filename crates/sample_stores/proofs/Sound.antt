-- What a store that is still sound has not seen.
use Rattle.std.proofs.Common.{◌≡◌, ◌∙◌, ◌⊎◌, ℕ, ◌+◌, ◌≤◌, Bool, true, false, List, sym, ap, subst, arith, inl, inr}
use Rattle.std.specs.Prelude.{IfSome}
use Rattle.bank_pair.specs.Pair.{IsPairInStep}
use Rattle.chart_store.specs.Images.{Holds}
use Rattle.chart_store.specs.declared.store.Store.{Store}
use Rattle.chart_store.specs.Saving.{HasBegun}
use Rattle.chart_store.specs.Store.{IsKept, IsSaveOf, StoreValue, count_of, store_of}

-- what makes a store unsound hasn't happened while it is sound
pub not-while-sound : {P : Type 0} (sound : Bool) → (P → sound ≡ false) → sound ≡ true → P → ⊥
not-while-sound sound makes_unsound is happened =
    let e : true ≡ false = sym is ∙ makes_unsound happened in cc

-- ---- a save that may have begun

abbrev pub MayHaveBegun : Store → Store → Type 0
MayHaveBegun old new = (store_of new ≡ store_of old) ⊎ ((slices : ℕ) × HasBegun slices old new)

same-kept : (contents : ℕ → List ℕ) (may_leave : ℕ → List ℕ → Type 0) (old new : Store) → store_of new ≡ store_of old
    → IsKept contents may_leave old → IsKept contents may_leave new
same-kept contents may_leave old new same kept = record {
  content = kept.content;
  pair = subst (λ (s : StoreValue). IsPairInStep contents may_leave s.pair kept.content) (sym same) kept.pair;
  holds = subst (λ (s : StoreValue). Holds kept.content s.state) (sym same) kept.holds;
  save = subst (λ (s : StoreValue). IfSome s.pair.save (IsSaveOf kept.content)) (sym same) kept.save;
}

-- a desk keeps the store as it was, or with the save
pub save-kept : (contents : ℕ → List ℕ) (may_leave : ℕ → List ℕ → Type 0) (old new : Store)
    → ((slices : ℕ) → IsKept contents may_leave old → HasBegun slices old new → IsKept contents may_leave new)
    → MayHaveBegun old new → IsKept contents may_leave old → IsKept contents may_leave new
save-kept contents may_leave old new law (inl same) kept = same-kept contents may_leave old new same kept
save-kept contents may_leave old new law (inr begun) kept = law begun.0 kept begun.1

-- and no command is accepted
pub save-count : (old new : Store) → MayHaveBegun old new → count_of new ≤ count_of old + 1
save-count old new (inl same) =
    let count : count_of new ≡ count_of old = ap (λ (s : StoreValue). s.count) same in omega (arith, count)
save-count old new (inr begun) = omega (arith, begun.1.count)
