-- How many areas an update modifies.
use Rattle.std.proofs.Common.{◌≡◌, ℕ, suc, ◌+◌, ◌%◌, Bool, true, false, add-one, [], ◌∷◌, length, refl, sym, ◌∙◌, ap, arith, length-append}
use Rattle.std.specs.Prelude.{filter}
use Rattle.std.proofs.lemmas.Bool.{eq-eqb, eqb-true, false_from_ne_true}
use Rattle.std.proofs.lemmas.List.Elements.{filter-append}
use Rattle.cell_bytes.specs.Generator.{modified_areas, is_modified, numbers_to}

abbrev pub modified_to : ℕ → ℕ → ℕ
modified_to update count = length (modified_areas update count)

pub none_modified : (update : ℕ) → modified_to update 0 ≡ 0
unfolding modified_areas numbers_to
none_modified update = refl

modified_next : (update count : ℕ) → modified_to update (suc count) ≡ modified_to update count + length (filter (is_modified update) (suc count ∷ []))
unfolding modified_areas numbers_to
modified_next update count =
    ap length (filter-append (is_modified update) (numbers_to count) (suc count ∷ []))
    ∙ length-append (filter (is_modified update) (numbers_to count)) (filter (is_modified update) (suc count ∷ []))

one_kept : (p : ℕ → Bool) (x : ℕ) → p x ≡ true → length (filter p (x ∷ [])) ≡ 1
one_kept p x h = rw h refl

none_kept : (p : ℕ → Bool) (x : ℕ) → p x ≡ false → length (filter p (x ∷ [])) ≡ 0
none_kept p x h = rw h refl

-- the next area is modified, or not
pub modified_in : (update before : ℕ) → (before + 1) % 30 ≡ update % 30 → modified_to update (before + 1) ≡ modified_to update before + 1
modified_in update before h =
    ap (modified_to update) (add-one before) ∙ modified_next update before
    ∙ ap (λ (n : ℕ). modified_to update before + n) (one_kept (is_modified update) (suc before) (ap (is_modified update) (sym (add-one before)) ∙ eq-eqb ((before + 1) % 30) (update % 30) h))

pub modified_out : (update before : ℕ) → ((before + 1) % 30 ≡ update % 30 → ⊥) → modified_to update (before + 1) ≡ modified_to update before
modified_out update before h =
    let other = false_from_ne_true (is_modified update (before + 1)) (λ is. h (eqb-true ((before + 1) % 30) (update % 30) is)) in
    let none = none_kept (is_modified update) (suc before) (ap (is_modified update) (sym (add-one before)) ∙ other) in
    omega (arith, ap (modified_to update) (add-one before), modified_next update before, none)
