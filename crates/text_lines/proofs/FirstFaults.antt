-- The first fault among lines.
use Rattle.std.proofs.Common.{◌≡◌, ℕ, List, [], ◌∷◌, ◌++◌, Option, Some, None, refl, sym, ap, ◌∙◌, subst, append_assoc, append-nil}
use Rattle.std.specs.Option.{option_or}
use Rattle.text_lines.specs.Reading.{first_fault, AreFaultless, HasFirstFault}

module _ {F : Type 0} (fault_at : List (List ℕ) → List ℕ → Option F) where
  none_first : (a b : Option F) → option_or a b ≡ None → a ≡ None
  none_first None b e = refl
  none_first (Some f) b e = absurd cc

  none_second : (a b : Option F) → option_or a b ≡ None → b ≡ None
  none_second None b e = e
  none_second (Some f) b e = absurd cc

  -- behind lines without a fault the first fault is that of the rest
  pub first_fault-append : (before xs ys : List (List ℕ)) → first_fault fault_at before xs ≡ None
      → first_fault fault_at before (xs ++ ys) ≡ first_fault fault_at (before ++ xs) ys
  unfolding first_fault
  first_fault-append before [] ys faultless = ap (λ (l : List (List ℕ)). first_fault fault_at l ys) (sym (append-nil before))
  first_fault-append before (x ∷ xs) ys faultless =
      let here = none_first _ _ faultless in
      let later = none_second _ _ faultless in
      ap (λ (o : Option F). option_or o (first_fault fault_at (before ++ x ∷ []) (xs ++ ys))) here
      ∙ first_fault-append (before ++ x ∷ []) xs ys later
      ∙ ap (λ (l : List (List ℕ)). first_fault fault_at l ys) (append_assoc before (x ∷ []) xs)

  pub first_fault-one : (before : List (List ℕ)) (line : List ℕ) → first_fault fault_at before (line ∷ []) ≡ fault_at before line
  unfolding first_fault
  first_fault-one before line = by (fault_at before line)
    where
      by : (o : Option F) → option_or o None ≡ o
      by None = refl
      by (Some f) = refl

  -- a line without a fault behind such lines
  pub faultless_more : (before : List (List ℕ)) (line : List ℕ) → first_fault fault_at [] before ≡ None → fault_at before line ≡ None
      → first_fault fault_at [] (before ++ line ∷ []) ≡ None
  faultless_more before line faultless here = first_fault-append [] before (line ∷ []) faultless ∙ first_fault-one before line ∙ here

  -- a line with a fault behind such lines
  pub faulty : (before rest : List (List ℕ)) (line : List ℕ) (f : F) → first_fault fault_at [] before ≡ None → fault_at before line ≡ Some f
      → first_fault fault_at [] (before ++ line ∷ rest) ≡ Some f
  unfolding first_fault
  faulty before rest line f faultless here =
      first_fault-append [] before (line ∷ rest) faultless ∙ ap (λ (o : Option F). option_or o (first_fault fault_at (before ++ line ∷ []) rest)) here

  pub no_lines : (before : List (List ℕ)) → first_fault fault_at before [] ≡ None
  unfolding first_fault
  no_lines before = refl

  -- ---- as a relation

  faultless_by : (before xs : List (List ℕ)) → first_fault fault_at before xs ≡ None
      → (front back : List (List ℕ)) (line : List ℕ) → xs ≡ front ++ line ∷ back → fault_at (before ++ front) line ≡ None
  unfolding first_fault
  faultless_by before [] faultless [] back line e = absurd cc
  faultless_by before [] faultless (y ∷ front) back line e = absurd cc
  faultless_by before (x ∷ xs) faultless [] back line e =
      let same : x ≡ line = cc in
      subst (λ (l : List (List ℕ)). fault_at l line ≡ None) (sym (append-nil before))
      (subst (λ (l : List ℕ). fault_at before l ≡ None) same (none_first _ _ faultless))
  faultless_by before (x ∷ xs) faultless (y ∷ front) back line e =
      let same : x ≡ y = cc in
      let rest : xs ≡ front ++ line ∷ back = cc in
      subst (λ (l : List (List ℕ)). fault_at l line ≡ None) (append_assoc before (y ∷ []) front)
      (faultless_by (before ++ y ∷ []) xs (subst (λ (l : List ℕ). first_fault fault_at (before ++ l ∷ []) xs ≡ None) same (none_second _ _ faultless)) front back line rest)

  faultless_from : (before xs : List (List ℕ))
      → ((front back : List (List ℕ)) (line : List ℕ) → xs ≡ front ++ line ∷ back → fault_at (before ++ front) line ≡ None)
      → first_fault fault_at before xs ≡ None
  unfolding first_fault
  faultless_from before [] faultless = refl
  faultless_from before (x ∷ xs) faultless =
      let here = subst (λ (l : List (List ℕ)). fault_at l x ≡ None) (append-nil before) (faultless [] xs x refl) in
      ap (λ (o : Option F). option_or o (first_fault fault_at (before ++ x ∷ []) xs)) here
      ∙ faultless_from (before ++ x ∷ []) xs (λ front back line e.
      subst (λ (l : List (List ℕ)). fault_at l line ≡ None) (sym (append_assoc before (x ∷ []) front))
      (faultless (x ∷ front) back line (ap (λ (l : List (List ℕ)). x ∷ l) e)))

  -- lines without a fault are those of which none has one
  pub no_fault-to : (xs : List (List ℕ)) → first_fault fault_at [] xs ≡ None → AreFaultless fault_at xs
  no_fault-to xs faultless = faultless_by [] xs faultless

  pub no_fault-from : (xs : List (List ℕ)) → AreFaultless fault_at xs → first_fault fault_at [] xs ≡ None
  no_fault-from xs faultless = faultless_from [] xs faultless

  pub has_first-to : (xs : List (List ℕ)) (f : F) → HasFirstFault fault_at xs f → first_fault fault_at [] xs ≡ Some f
  has_first-to xs f h = ap (first_fault fault_at []) h.whole ∙ faulty h.before h.rest h.line f (no_fault-from h.before h.faultless) h.here

  found : (before xs : List (List ℕ)) (f : F) → first_fault fault_at [] before ≡ None → first_fault fault_at before xs ≡ Some f → HasFirstFault fault_at (before ++ xs) f
  unfolding first_fault
  found before [] f faultless e = absurd cc
  found before (x ∷ xs) f faultless e = by (fault_at before x) refl e (λ s d. found (before ++ x ∷ []) xs f s d)
    where
      by : (o : Option F) → fault_at before x ≡ o → option_or o (first_fault fault_at (before ++ x ∷ []) xs) ≡ Some f
          → (first_fault fault_at [] (before ++ x ∷ []) ≡ None → first_fault fault_at (before ++ x ∷ []) xs ≡ Some f → HasFirstFault fault_at ((before ++ x ∷ []) ++ xs) f)
          → HasFirstFault fault_at (before ++ x ∷ xs) f
      by (Some g) is e later = record {
        before = before;
        line = x;
        rest = xs;
        whole = refl;
        faultless = no_fault-to before faultless;
        here = is ∙ e;
      }
      by None is e later =
          subst (λ (l : List (List ℕ)). HasFirstFault fault_at l f) (append_assoc before (x ∷ []) xs)
          (later (faultless_more before x faultless is) e)

  pub has_first-from : (xs : List (List ℕ)) (f : F) → first_fault fault_at [] xs ≡ Some f → HasFirstFault fault_at xs f
  has_first-from xs f e = found [] xs f (no_lines []) e
