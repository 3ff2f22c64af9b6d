-- Entries that stand in buckets, as more are added.
use Rattle.std.proofs.Common.{◌≡◌, ◌⊎◌, inl, inr, ℕ, ◌+◌, ◌<◌, ◌≤◌, List, [], ◌∷◌, ◌++◌, sym, subst, arith}
use Rattle.std.specs.List.{Contains}
use Rattle.std.proofs.lemmas.Bool.{cases_lt}
use Rattle.std.proofs.lemmas.List.Elements.{Contains-append_left, Contains-push}
use Rattle.chart_model.specs.declared.name.Name.{Name}
use Rattle.plane_bounds.specs.declared.bounds.Bounds.{Bounds}
use Rattle.spatial_grid.specs.declared.axis.Axis.{Axis}
use Rattle.spatial_grid.specs.declared.entry.Entry.{Entry}
use Rattle.spatial_grid.specs.Buckets.{Keeps, IsEntered, IsEnteredAt}

pub keeps_itself : {X : Type 0} (xs : List X) → Keeps xs xs
keeps_itself xs x h = h

pub keeps_then : {X : Type 0} (xs ys zs : List X) → Keeps xs ys → Keeps ys zs → Keeps xs zs
keeps_then xs ys zs a b x h = b x (a x h)

pub keeps_pushed : {X : Type 0} (xs ys : List X) (x : X) → ys ≡ xs ++ x ∷ [] → Keeps xs ys
keeps_pushed xs ys x e y h = subst (λ l. Contains l y) (sym e) (Contains-append_left xs (x ∷ []) y h)

pub pushed_there : {X : Type 0} (xs ys : List X) (x : X) → ys ≡ xs ++ x ∷ [] → Contains ys x
pushed_there xs ys x e = subst (λ l. Contains l x) (sym e) (Contains-push xs x)

step : (k i : ℕ) → k < i + 1 → (k < i) ⊎ (k ≡ i)
step k i lt = elim (cases_lt k i) [ inl h ↦ inl h | inr h ↦ inr (omega arith) ]

-- what holds of each number up to one before the next, and of the next
pub up_to_next : (P : ℕ → Type 0) (low next : ℕ) → ((k : ℕ) → low ≤ k → k < next → P k) → P next → (k : ℕ) → low ≤ k → k < next + 1 → P k
up_to_next P low next before here k from lt =
    elim (step k next lt) [ inl h ↦ before k from h | inr e ↦ subst P (sym e) here ]

-- an entry kept as more are added
pub entered_kept : (place low high first last : ℕ) (old new : List Entry) → Keeps old new → IsEntered place low high first last old → IsEntered place low high first last new
entered_kept place low high first last old new kept (inl beside) = inl (kept _ beside)
entered_kept place low high first last old new kept (inr stands) = inr (λ row a b column c d. kept _ (stands row a b column c d))

-- the same place in the same buckets
pub entered_same : (entries : List Entry) (p p' a a' b b' c c' d d' : ℕ) → p ≡ p' → a ≡ a' → b ≡ b' → c ≡ c' → d ≡ d' → IsEntered p a b c d entries → IsEntered p' a' b' c' d' entries
entered_same entries p p' a a' b b' c c' d d' e f g h k entered =
    subst (λ (x : ℕ). IsEntered p' a' b' c' x entries) k
    (subst (λ (x : ℕ). IsEntered p' a' b' x d entries) h
    (subst (λ (x : ℕ). IsEntered p' a' x c d entries) g
    (subst (λ (x : ℕ). IsEntered p' x b c d entries) f
    (subst (λ (x : ℕ). IsEntered x a b c d entries) e entered))))

-- the boxes before a place, and the one at it
pub entered_next : (boxes : List (Name × Bounds)) (rows columns : Axis) (place : ℕ) (old new : List Entry) → Keeps old new
    → ((k : ℕ) → k < place → IsEnteredAt boxes rows columns k old) → IsEnteredAt boxes rows columns place new → (k : ℕ) → k < place + 1 → IsEnteredAt boxes rows columns k new
entered_next boxes rows columns place old new kept before here k lt =
    elim (step k place lt) [
      | inl h ↦ λ boxed e. entered_kept k _ _ _ _ old new kept (before k h boxed e)
      | inr e ↦ subst (λ (n : ℕ). IsEnteredAt boxes rows columns n new) (sym e) here
    ]
