-- Tags: whether two are the same, and layouts looked up by tag, one after the other.
use Rattle.std.proofs.Common.{◌≡◌, ℕ, Bool, nat_eq, suc, ◌+◌, ◌≤◌, ◌<◌, true, false, List, ◌∷◌, length, get_or, drop, Option, Some, None, refl, sym, ap, ◌∙◌, add-one, drop-cons}
use Rattle.std.proofs.Math.ListN.{drop_of_length-le}
use Rattle.std.proofs.Common.{Bor}
use Rattle.std.specs.Prelude.{is_some}
use Rattle.std.specs.Option.{option_copied}
use Rattle.std.specs.Str.{bytes_eq}
use Rattle.std.specs.Int.{w32, to_le_bytes, from_le_bytes}
use Rattle.std.proofs.lemmas.Bool.{false_from_ne_true}
use Rattle.std.proofs.lemmas.Slice.Eq.{bytes_eq-Decides}
use Rattle.std.proofs.lemmas.Bool.Decides.{Decides-eqb}
use Rattle.iso8211_formats.specs.Layout.{Layout}
use Rattle.iso8211_records.specs.Kinds.{layout_at}

pub layout_at-here : (pairs : List (List ℕ × Layout)) (i : ℕ) (pair : List ℕ × Layout) (tag : List ℕ) (total : Option Layout) → i < length pairs → pair ≡ get_or pairs i pair → true ≡ bytes_eq pair.0 tag
    → layout_at (drop i pairs) tag ≡ total → Some pair.1 ≡ total
layout_at-here pairs i pair tag total inside is here so_far =
    let cut : drop i pairs ≡ pair ∷ drop (suc i) pairs = drop-cons pairs i pair inside ∙ ap (λ (p : List ℕ × Layout). p ∷ drop (suc i) pairs) (sym is) in
    let step : layout_at (drop i pairs) tag ≡ Some pair.1 = rw (cut, ← here) refl in
    sym step ∙ so_far

pub layout_at-later : (pairs : List (List ℕ × Layout)) (i : ℕ) (pair : List ℕ × Layout) (tag : List ℕ) (total : Option Layout) → i < length pairs → pair ≡ get_or pairs i pair → false ≡ bytes_eq pair.0 tag
    → layout_at (drop i pairs) tag ≡ total → layout_at (drop (i + 1) pairs) tag ≡ total
layout_at-later pairs i pair tag total inside is other so_far =
    let cut : drop i pairs ≡ pair ∷ drop (suc i) pairs = drop-cons pairs i pair inside ∙ ap (λ (p : List ℕ × Layout). p ∷ drop (suc i) pairs) (sym is) in
    let step : layout_at (drop i pairs) tag ≡ layout_at (drop (suc i) pairs) tag = rw (cut, ← other) refl in
    rw add-one (sym step ∙ so_far)

pub layout_at-none : (pairs : List (List ℕ × Layout)) (i : ℕ) (tag : List ℕ) (total : Option Layout) → length pairs ≤ i → layout_at (drop i pairs) tag ≡ total → None ≡ total
layout_at-none pairs i tag total done so_far =
    let step : layout_at (drop i pairs) tag ≡ None = rw (drop_of_length-le pairs done) refl in
    sym step ∙ so_far

pub is_some-copied : {A : Type 0} (r : Option (Bor A)) → is_some r ≡ is_some (option_copied r)
is_some-copied None = refl
is_some-copied (Some x) = refl

decided : (xs ys : List ℕ) (b : Bool) → (b ≡ true → xs ≡ ys) → (xs ≡ ys → b ≡ true) → b ≡ bytes_eq xs ys
decided xs ys true same tested = sym ((bytes_eq-Decides xs ys).1 (same refl))
decided xs ys false same tested =
    sym (false_from_ne_true (bytes_eq xs ys) (λ h. let e = tested ((bytes_eq-Decides xs ys).0 h) in absurd cc))

-- tags are the same where their numbers are
pub same-numbers : (tag other : List ℕ) (m n : ℕ) → to_le_bytes w32 m ≡ tag → to_le_bytes w32 n ≡ other → m ≡ from_le_bytes w32 tag → n ≡ from_le_bytes w32 other
    → nat_eq m n ≡ bytes_eq tag other
same-numbers tag other m n is other_is number other_number =
    decided tag other (nat_eq m n) (λ h. sym is ∙ ap (to_le_bytes w32) ((Decides-eqb m n).0 h) ∙ other_is)
    (λ h. (Decides-eqb m n).1 (number ∙ ap (from_le_bytes w32) h ∙ sym other_number))
