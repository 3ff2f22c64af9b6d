-- The name in a path.
use Rattle.std.proofs.Common.{◌≡◌, ◌≢◌, inl, inr, ℕ, ◌-◌, ◌<◌, ◌≤◌, Bool, true, false, eqb, not, List, length, get_or}
use Rattle.std.proofs.Common.{take, drop, refl, sym, ap, ◌∙◌, arith, length-drop}
use Rattle.std.specs.List.{suffix_len}
use Rattle.std.proofs.Math.Seq.{take-length}
use Rattle.std.proofs.lemmas.Bool.Decides.{eqb_tells}
use Rattle.std.proofs.lemmas.List.Sums.{suffix_len_is}
use Rattle.exchange_catalogue.specs.Paths.{is_slash, name_of}

other : (byte : ℕ) → byte ≢ 47 → not (is_slash byte) ≡ true
other byte ne = elim (eqb_tells byte 47) [ inl h ↦ absurd (ne h.1) | inr h ↦ ap not h.0 ]

slash : (byte : ℕ) → byte ≡ 47 → not (is_slash byte) ≡ false
slash byte e = elim (eqb_tells byte 47) [ inl h ↦ ap not h.0 | inr h ↦ absurd (h.1 e) ]

-- behind the start there is no `/`, and one stands before it unless the path starts there
pub name-is : (path : List ℕ) (start : ℕ) → start ≤ length path
    → ((k : ℕ) → start ≤ k → k < length path → get_or path k 0 ≢ 47)
    → (0 < start → get_or path (start - 1) 0 ≡ 47) → take (length path - start) (drop start path) ≡ name_of path
name-is path start within none last =
    let count : suffix_len (λ (byte : ℕ). not (is_slash byte)) path ≡ length path - start =
    suffix_len_is (λ (byte : ℕ). not (is_slash byte)) path start 0 within
    (λ k low high. other (get_or path k 0) (none k low high)) (λ some. slash (get_or path (start - 1) 0) (last some)) in
    let size : length path - start ≡ length (drop start path) = sym (length-drop start path) in
    let place : length path - (length path - start) ≡ start = omega arith in
    ap (λ (n : ℕ). take n (drop start path)) size ∙ take-length (drop start path)
    ∙ sym (ap (λ (n : ℕ). drop (length path - n) path) count ∙ ap (λ (n : ℕ). drop n path) place)
