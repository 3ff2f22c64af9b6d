-- The first element of a list that isn't so, found by a test.
use Rattle.std.proofs.Common.{◌≡◌, ℕ, suc, ◌+◌, ◌*◌, Bool, true, false, cond, List, [], ◌∷◌, ◌++◌, length, Some, None, refl, sym, ap, ◌∙◌, subst, arith}
use Rattle.std.specs.List.{AllByRecursion}
use Rattle.iso8211_leader.specs.declared.entry.Entry.{Entry}
use Rattle.iso8211_records.specs.Reading.{place_without, first_without}
use Rattle.iso8211_records.specs.Fault.{IsFirstWithout}

-- the test says whether it is so
pub record IsTest {A : Type 0} (passes : A → Bool) (P : A → Type 0) : Type 0 where
  pub yes : (x : A) → passes x ≡ true → P x
  pub no : (x : A) → passes x ≡ false → P x → ⊥

pub passes-true : {A : Type 0} (passes : A → Bool) (P : A → Type 0) (x : A) → IsTest passes P → P x → passes x ≡ true
passes-true passes P x t h =
    elim (passes x) as (λ b. passes x ≡ b → b ≡ true) [
      | true ↦ λ e. refl
      | false ↦ λ e. absurd (t.no x e h)
    ] refl

pub passes-false : {A : Type 0} (passes : A → Bool) (P : A → Type 0) (x : A) → IsTest passes P → (P x → ⊥) → passes x ≡ false
passes-false passes P x t h =
    elim (passes x) as (λ b. passes x ≡ b → b ≡ false) [
      | true ↦ λ e. absurd (h (t.yes x e))
      | false ↦ λ e. refl
    ] refl

-- ---- the element

first-later : {A : Type 0} (P : A → Type 0) (x : A) (xs : List A) (count : ℕ) (y : A) → P x → IsFirstWithout P xs count y → IsFirstWithout P (x ∷ xs) (suc count) y
first-later P x xs count y h f = record {
  before = x ∷ f.before;
  after = f.after;
  parts = ap (λ (l : List _). x ∷ l) f.parts;
  counted = ap (λ n. suc n) f.counted;
  each = (h, f.each);
  fails = f.fails;
}

pub first-here : {A : Type 0} (P : A → Type 0) (x : A) (xs : List A) → (P x → ⊥) → IsFirstWithout P (x ∷ xs) 0 x
first-here P x xs h = record { before = []; after = xs; parts = refl; counted = refl; each = tt; fails = h }

pub first_without-some : {A : Type 0} (passes : A → Bool) (P : A → Type 0) (xs : List A) (y : A) → IsTest passes P → first_without passes xs ≡ Some y → (count : ℕ) × IsFirstWithout P xs count y
first_without-some passes P [] y t h = absurd cc
first_without-some {A} passes P (x ∷ xs) y t h =
    elim (passes x) as (λ b. passes x ≡ b → cond b (first_without passes xs) (Some x) ≡ Some y → (count : ℕ) × IsFirstWithout P (x ∷ xs) count y) [
      | true ↦ λ e k. (let p = first_without-some passes P xs y t k in (suc p.0, first-later P x xs p.0 y (t.yes x e) p.1))
      | false ↦ λ e k. (0, let same : x ≡ y = cc in subst (λ (z : A). IsFirstWithout P (x ∷ xs) 0 z) same (first-here P x xs (t.no x e)))
    ] refl h

pub first_without-none : {A : Type 0} (passes : A → Bool) (P : A → Type 0) (xs : List A) → IsTest passes P → first_without passes xs ≡ None → AllByRecursion P xs
first_without-none passes P [] t h = tt
first_without-none passes P (x ∷ xs) t h =
    elim (passes x) as (λ b. passes x ≡ b → cond b (first_without passes xs) (Some x) ≡ None → AllByRecursion P (x ∷ xs)) [
      | true ↦ λ e k. (t.yes x e, first_without-none passes P xs t k)
      | false ↦ λ e k. absurd cc
    ] refl h

pub first_without-each : {A : Type 0} (passes : A → Bool) (P : A → Type 0) (xs : List A) → IsTest passes P → AllByRecursion P xs → first_without passes xs ≡ None
first_without-each passes P [] t h = refl
first_without-each passes P (x ∷ xs) t h = rw (passes-true passes P x t h.0) (first_without-each passes P xs t h.1)

first_without-front : {A : Type 0} (passes : A → Bool) (P : A → Type 0) (before after : List A) (x : A) → IsTest passes P → AllByRecursion P before → (P x → ⊥) → first_without passes (before ++ x ∷ after) ≡ Some x
first_without-front passes P [] after x t each fails = rw (passes-false passes P x t fails) refl
first_without-front passes P (y ∷ before) after x t each fails = rw (passes-true passes P y t each.0) (first_without-front passes P before after x t each.1 fails)

pub first_without-is : {A : Type 0} (passes : A → Bool) (P : A → Type 0) (xs : List A) (count : ℕ) (x : A) → IsTest passes P → IsFirstWithout P xs count x → first_without passes xs ≡ Some x
first_without-is passes P xs count x t f = ap (first_without passes) f.parts ∙ first_without-front passes P f.before f.after x t f.each f.fails

-- ---- its place

mul-more : (place size count q : ℕ) → q ≡ place + size + size * count → q ≡ place + size * suc count
mul-more place size count q h = grind arith

pub place_without-some : (passes : Entry → Bool) (P : Entry → Type 0) (size place : ℕ) (xs : List Entry) (q : ℕ) → IsTest passes P → place_without passes size place xs ≡ Some q
    → (count : ℕ) × (y : Entry) × IsFirstWithout P xs count y × (q ≡ place + size * count)
place_without-some passes P size place [] q t h = absurd cc
place_without-some passes P size place (x ∷ xs) q t h =
    elim (passes x) as (λ b. passes x ≡ b → cond b (place_without passes size (place + size) xs) (Some place) ≡ Some q → (count : ℕ) × (y : Entry) × IsFirstWithout P (x ∷ xs) count y × (q ≡ place + size * count)) [
      | true ↦ λ e k. (let p = place_without-some passes P size (place + size) xs q t k in (suc p.0, p.1, first-later P x xs p.0 p.1 (t.yes x e) p.2, mul-more place size p.0 q p.3))
      | false ↦ λ e k. (0, x, first-here P x xs (t.no x e), (let same : place ≡ q = cc in omega arith))
    ] refl h

pub place_without-none : (passes : Entry → Bool) (P : Entry → Type 0) (size place : ℕ) (xs : List Entry) → IsTest passes P → place_without passes size place xs ≡ None → AllByRecursion P xs
place_without-none passes P size place [] t h = tt
place_without-none passes P size place (x ∷ xs) t h =
    elim (passes x) as (λ b. passes x ≡ b → cond b (place_without passes size (place + size) xs) (Some place) ≡ None → AllByRecursion P (x ∷ xs)) [
      | true ↦ λ e k. (t.yes x e, place_without-none passes P size (place + size) xs t k)
      | false ↦ λ e k. absurd cc
    ] refl h

pub place_without-each : (passes : Entry → Bool) (P : Entry → Type 0) (size place : ℕ) (xs : List Entry) → IsTest passes P → AllByRecursion P xs → place_without passes size place xs ≡ None
place_without-each passes P size place [] t h = refl
place_without-each passes P size place (x ∷ xs) t h = rw (passes-true passes P x t h.0) (place_without-each passes P size (place + size) xs t h.1)

place_without-front : (passes : Entry → Bool) (P : Entry → Type 0) (size place : ℕ) (before after : List Entry) (x : Entry) → IsTest passes P → AllByRecursion P before → (P x → ⊥)
    → place_without passes size place (before ++ x ∷ after) ≡ Some (place + size * length before)
place_without-front passes P size place [] after x t each fails = rw (passes-false passes P x t fails) (ap (λ n. Some n) (omega arith))
place_without-front passes P size place (y ∷ before) after x t each fails =
    rw (passes-true passes P y t each.0) (place_without-front passes P size (place + size) before after x t each.1 fails ∙ ap (λ n. Some n) (mul-more place size (length before) (place + size + size * length before) refl))

pub place_without-is : (passes : Entry → Bool) (P : Entry → Type 0) (size place : ℕ) (xs : List Entry) (count : ℕ) (x : Entry) → IsTest passes P → IsFirstWithout P xs count x
    → place_without passes size place xs ≡ Some (place + size * count)
place_without-is passes P size place xs count x t f =
    ap (place_without passes size place) f.parts ∙ place_without-front passes P size place f.before f.after x t f.each f.fails ∙ ap (λ n. Some (place + size * n)) (sym f.counted)
