-- What stands before a byte and behind it, and a text with an end cut off.
use Rattle.std.proofs.Common.{◌≡◌, ℕ, false, eqb, ◌&&◌, List, [], ◌∷◌, ◌++◌, Option, Some, None, refl, sym, ap, subst, ◌∙◌, inl, inr}
use Rattle.std.specs.Prelude.{option_map, MatchOption, ◌≢◌}
use denote.Ref.{Bor}
use Rattle.std.specs.List.{AllByRecursion}
use Rattle.std.proofs.lemmas.Bool.{eqb-true, eq-eqb, and_parts}
use Rattle.common_lemmas.proofs.Choices.{chosen, map_some, none_unless, some_is}
use Rattle.iso8211_formats.specs.Reading.{cut_at, before_end}
use Rattle.iso8211_formats.proofs.GivenValues.{guarded_some}

-- this byte is nowhere in the text
abbrev pub Lacks : ℕ → List ℕ → Type 0
Lacks byte text = AllByRecursion (λ x. eqb x byte ≡ false) text

pub Lacks-append : (byte : ℕ) (xs ys : List ℕ) → Lacks byte xs → Lacks byte ys → Lacks byte (xs ++ ys)
Lacks-append byte [] ys p q = q
Lacks-append byte (x ∷ xs) ys p q = (p.0, Lacks-append byte xs ys p.1 q)

pub cut_at_found : (byte : ℕ) (text : List ℕ) (parts : List ℕ × List ℕ) → cut_at byte text ≡ Some parts → (text ≡ parts.0 ++ byte ∷ parts.1) × Lacks byte parts.0
unfolding cut_at
cut_at_found byte [] parts e = absurd cc
cut_at_found byte (x ∷ xs) parts e =
    elim (chosen (eqb x byte) (Some ([], xs)) (option_map (λ p. (x ∷ p.0, p.1)) (cut_at byte xs)) (Some parts) e) [
      | inl h ↦
          let same : x ≡ byte = eqb-true x byte h.0 in
          let p : ◌≡◌ {A = List ℕ × List ℕ} ([], xs) parts = some_is ([], xs) parts h.1 in
          let P : List ℕ × List ℕ → Type 0 = λ q. (x ∷ xs ≡ q.0 ++ byte ∷ q.1) × Lacks byte q.0 in
          subst P p (ap (λ (b : ℕ). b ∷ xs) same, tt)
      | inr h ↦
          let m = map_some (λ p. (x ∷ p.0, p.1)) (cut_at byte xs) parts h.1 in
          let rest = cut_at_found byte xs m.0 m.1 in
          let P : List ℕ × List ℕ → Type 0 = λ q. (x ∷ xs ≡ q.0 ++ byte ∷ q.1) × Lacks byte q.0 in
          subst P m.2 (ap (λ (t : List ℕ). x ∷ t) rest.0, (h.0, rest.1))
    ]

pub cut_at_again : (byte : ℕ) (front rest : List ℕ) → Lacks byte front → cut_at byte (front ++ byte ∷ rest) ≡ Some (front, rest)
unfolding cut_at
cut_at_again byte [] rest lacks = rw (eq-eqb byte byte refl) refl
cut_at_again byte (x ∷ front) rest lacks = rw (lacks.0, cut_at_again byte front rest lacks.1) refl

pub before_end_found : (text front : List ℕ) → before_end text ≡ Some front → text ≡ front ++ 41 ∷ 30 ∷ []
unfolding before_end
before_end_found [] front e = absurd cc
before_end_found (x ∷ []) front e = absurd cc
before_end_found (x ∷ y ∷ []) front e =
    let g = guarded_some (eqb x 41 && eqb y 30) [] front e in
    let tests = and_parts (eqb x 41) (eqb y 30) g.0 in
    let close : x ≡ 41 = eqb-true x 41 tests.0 in
    let end : y ≡ 30 = eqb-true y 30 tests.1 in
    rw (close, end, ← g.1) refl
before_end_found (x ∷ y ∷ z ∷ rest) front e =
    let m = map_some (λ t. x ∷ t) (before_end (y ∷ z ∷ rest)) front e in
    ap (λ (t : List ℕ). x ∷ t) (before_end_found (y ∷ z ∷ rest) m.0 m.1) ∙ ap (λ (t : List ℕ). t ++ 41 ∷ 30 ∷ []) m.2

pub before_end_again : (front : List ℕ) → before_end (front ++ 41 ∷ 30 ∷ []) ≡ Some front
unfolding before_end
before_end_again [] = refl
before_end_again (x ∷ []) = refl
before_end_again (x ∷ y ∷ []) = refl
before_end_again (x ∷ y ∷ z ∷ front) = rw (before_end_again (y ∷ z ∷ front)) refl

-- the text that `strip_suffix` leaves
pub before_end-stripped : (text : List ℕ) (r : Option (Bor (List ℕ))) → MatchOption r ((front : List ℕ) → text ≢ front ++ 41 ∷ 30 ∷ []) (λ x. text ≡ x.now ++ 41 ∷ 30 ∷ []) → option_map (λ (x : Bor (List ℕ)). x.now) r ≡ before_end text
before_end-stripped text None ends_otherwise = sym (none_unless (before_end text) (λ front e. ends_otherwise front (before_end_found text front e)))
before_end-stripped text (Some x) whole = sym (ap before_end whole ∙ before_end_again x.now)
