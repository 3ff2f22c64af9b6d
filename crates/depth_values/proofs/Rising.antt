-- Places in order pick what passes a test.
use Rattle.std.proofs.Common.{◌≡◌, ◌⊎◌, inl, inr, ℕ, zero, suc, ◌+◌, ◌-◌, ◌<◌, ◌≤◌, Bool, true, false, cond, List, [], ◌∷◌, map, Option, Some, refl, sym, ap, ◌∙◌, subst, arith}
use Rattle.std.specs.Prelude.{AllPairs, option_map, filter, slice_get}
use Rattle.std.specs.List.{Contains, filter_map, cons_option}
use Rattle.std.proofs.lemmas.Bool.{cases_lt, false≢true}
use Rattle.std.proofs.lemmas.Option.{none-some}
use Rattle.common_lemmas.proofs.Choices.{some_is}

-- ---- the first place, and the others

at_front : {X : Type 0} (x : X) (xs : List X) → Contains (x ∷ xs) x
at_front x xs = (0, omega arith, refl)

behind : {X : Type 0} (x y : X) (xs : List X) → Contains xs y → Contains (x ∷ xs) y
behind x y xs c = (suc c.0, omega (arith, c.1), c.2)

front_or_behind : {X : Type 0} (x y : X) (xs : List X) → Contains (x ∷ xs) y → (x ≡ y) ⊎ Contains xs y
front_or_behind x y xs (zero, lt, e) = inl e
front_or_behind x y xs (suc k, lt, e) = inr (k, omega (arith, lt), e)

abbrev pub AreRising : List ℕ → Type 0
AreRising ks = AllPairs (λ x y. x < y) ks

rising_behind : (k : ℕ) (ks : List ℕ) → AreRising (k ∷ ks) → AreRising ks
rising_behind k ks r i j d lt within = r (suc i) (suc j) d (omega (arith, lt)) (omega (arith, within))

above_front : (k : ℕ) (ks : List ℕ) → AreRising (k ∷ ks) → (n : ℕ) → Contains ks n → k < n
above_front k ks r n (i, lt, e) = subst (λ (m : ℕ). k < m) e (r 0 (suc i) n (omega arith) (omega (arith, lt)))

-- ---- what they pick

module _ {X Y : Type 0} (g : X → Y) (p : X → Bool) (f : ℕ → Option X) where
  -- what stands at a place passes
  pub record Passes (k : ℕ) : Type 0 where
    pub x : X
    pub there : f k ≡ Some x
    pub passes : p x ≡ true

  -- the places are those from one on where something passes, in order
  pub record ArePassing (from : ℕ) (ks : List ℕ) : Type 0 where
    pub rising : AreRising ks
    pub lower : (k : ℕ) → Contains ks k → from ≤ k
    pub sound : (k : ℕ) → Contains ks k → Passes k
    pub all : (k : ℕ) → from ≤ k → Passes k → Contains ks k

  abbrev picks : List ℕ → List Y
  picks ks = filter_map (λ (k : ℕ). option_map g (f k)) ks

  passes_here : (k : ℕ) (x : X) → f k ≡ Some x → Passes k → p x ≡ true
  passes_here k x here q = ap p (some_is x q.x (sym here ∙ q.there)) ∙ q.passes

  -- a place where something passes is the first, and the others lie behind it
  step_taken : (x : X) (i : ℕ) (ks : List ℕ) (passed : List X) → f i ≡ Some x → p x ≡ true
      → ((others : List ℕ) → ArePassing (suc i) others → picks others ≡ map g passed) → ArePassing i ks → picks ks ≡ g x ∷ map g passed
  step_taken x i [] passed here passing later h =
      let q : Passes i = record { x = x; there = here; passes = passing } in
      let c = h.all i (omega arith) q in
      absurd (omega (arith, c.1))
  step_taken x i (k ∷ ks) passed here passing later h =
      let q : Passes i = record { x = x; there = here; passes = passing } in
      let low = h.lower k (at_front k ks) in
      let same : k ≡ i =
      elim (front_or_behind k i ks (h.all i (omega arith) q)) [
        | inl e ↦ e
        | inr c ↦ absurd (omega (arith, above_front k ks h.rising i c, low))
      ] in
      let rest : ArePassing (suc i) ks = record {
        rising = rising_behind k ks h.rising;
        lower = λ n c. omega (arith, above_front k ks h.rising n c, same);
        sound = λ n c. h.sound n (behind k n ks c);
        all = λ n from r.
            elim (front_or_behind k n ks (h.all n (omega (arith, from)) r)) [ inl e ↦ absurd (omega (arith, e, same, from)) | inr c ↦ c ];
      } in
      ap (λ (o : Option X). cons_option (option_map g o) (picks ks)) (ap f same ∙ here) ∙ ap (λ (ys : List Y). g x ∷ ys) (later ks rest)

  -- another place is none of them
  step_left : (x : X) (i : ℕ) (ks : List ℕ) → f i ≡ Some x → p x ≡ false → ArePassing i ks → ArePassing (suc i) ks
  step_left x i ks here failing h = record {
    rising = h.rising;
    lower = λ k c. elim (cases_lt i k) [
      | inl lt ↦ omega (arith, lt)
      | inr le ↦
          let same : k ≡ i = omega (arith, le, h.lower k c) in
          absurd (false≢true (sym failing ∙ passes_here k x (ap f same ∙ here) (h.sound k c)))
    ];
    sound = h.sound;
    all = λ k from q. h.all k (omega (arith, from)) q;
  }

  picked : (xs : List X) (i : ℕ) (ks : List ℕ) → ((j : ℕ) → f (i + j) ≡ slice_get xs j) → ArePassing i ks → picks ks ≡ map g (filter p xs)
  picked [] i [] at h = refl
  picked [] i (k ∷ ks) at h =
      let low = h.lower k (at_front k ks) in
      let q = h.sound k (at_front k ks) in
      let same : k ≡ i + (k - i) = omega (arith, low) in
      absurd (none-some q.x (sym (at (k - i)) ∙ ap f (sym same) ∙ q.there))
  picked (x ∷ xs) i ks at h = by (picked xs (suc i)) (p x) refl
    where
      here : f i ≡ Some x
      here = let e : i ≡ i + 0 = omega arith in ap f e ∙ at 0

      behind_it : (j : ℕ) → f (suc i + j) ≡ slice_get xs j
      behind_it j = let e : suc i + j ≡ i + suc j = omega arith in ap f e ∙ at (suc j)

      by : ((others : List ℕ) → ((j : ℕ) → f (suc i + j) ≡ slice_get xs j) → ArePassing (suc i) others → picks others ≡ map g (filter p xs)) → (b : Bool) → p x ≡ b
          → picks ks ≡ map g (cond b (x ∷ filter p xs) (filter p xs))
      by later true passing = step_taken x i ks (filter p xs) here passing (λ others q. later others behind_it q) h
      by later false failing = later ks behind_it (step_left x i ks here failing h)

-- the places of what passes, in order, pick what the test keeps
pub picked_all : {X Y : Type 0} (g : X → Y) (p : X → Bool) (xs : List X) (ks : List ℕ) → AreRising ks
    → ((k : ℕ) → Contains ks k → Passes g p (slice_get xs) k) → ((k : ℕ) → Passes g p (slice_get xs) k → Contains ks k)
    → filter_map (λ (k : ℕ). option_map g (slice_get xs k)) ks ≡ map g (filter p xs)
picked_all g p xs ks rising sound all =
    picked g p (slice_get xs) xs 0 ks (λ j. let e : 0 + j ≡ j = omega arith in ap (slice_get xs) e)
    (record { rising = rising; lower = λ k c. omega arith; sound = sound; all = λ k from q. all k q })
