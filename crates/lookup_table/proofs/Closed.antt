-- Texts in parentheses.
use Rattle.std.proofs.lemmas.List.{take_more}
use Rattle.std.proofs.Math.Seq.{take-length}
use Rattle.std.proofs.Common.{◌≡◌, ℕ, ◌+◌, ◌-◌, ◌<◌, ◌≤◌, Bool, true, false, ◌&&◌, eqb, List, [], ◌∷◌, ◌++◌, length, take, get_or, refl, sym, ap, ◌∙◌, arith}
use Rattle.std.specs.List.{list_all}
use Rattle.lookup_table.specs.Written.{is_plain, is_closed}

pub closed-by : (inner : List ℕ) (last : ℕ) → is_closed (inner ++ last ∷ []) ≡ (list_all is_plain inner && eqb last 41)
unfolding is_closed
closed-by [] last = refl
closed-by (x ∷ []) last = more (is_plain x) (eqb last 41)
  where
    more : (a b : Bool) → (a && b) ≡ ((a && true) && b)
    more true b = refl
    more false b = refl
closed-by (x ∷ y ∷ inner) last = ap (λ (b : Bool). is_plain x && b) (closed-by (y ∷ inner) last) ∙ grouped (is_plain x) (list_all is_plain (y ∷ inner)) (eqb last 41)
  where
    grouped : (a b c : Bool) → (a && (b && c)) ≡ ((a && b) && c)
    grouped true b c = refl
    grouped false b c = refl

text_by_last : (text : List ℕ) → 1 ≤ length text → text ≡ take (length text - 1) text ++ get_or text (length text - 1) 0 ∷ []
text_by_last text h =
    sym (take-length text) ∙ ap (λ (n : ℕ). take n text) n-is ∙ take_more text (length text - 1) 0 (omega arith)
  where
    n-is : length text ≡ (length text - 1) + 1
    n-is = omega arith

pub closed-last : (text : List ℕ) → 1 ≤ length text → is_closed text ≡ (list_all is_plain (take (length text - 1) text) && eqb (get_or text (length text - 1) 0) 41)
closed-last text h = ap is_closed (text_by_last text h) ∙ closed-by (take (length text - 1) text) (get_or text (length text - 1) 0)

pub closed-none : (text : List ℕ) → length text < 1 → is_closed text ≡ false
unfolding is_closed
closed-none [] h = refl
closed-none (x ∷ text) h = absurd (omega (arith, h))

pub and-true : (a b : Bool) → b ≡ true → (a && b) ≡ a
and-true true b h = h
and-true false b h = refl

pub and-false : (a b : Bool) → b ≡ false → (a && b) ≡ false
and-false true b h = h
and-false false b h = refl
