-- What is counted from 1.
use Rattle.std.proofs.Common.{◌≡◌, ℕ, ◌+◌, ◌<◌, List, [], ◌∷◌, ◌++◌, length, get_or, take, map, Some, sym, ap, ◌∙◌, arith}
use Rattle.std.specs.List.{slice_get, enumerate_from}
use Rattle.std.proofs.Math.Seq.{take-length}
use Rattle.std.proofs.lemmas.List.{take_more, map-append}
use Rattle.std.proofs.lemmas.List.FromFn.{length-enumerate_from, get_or-enumerate_from}
use Rattle.std.proofs.lemmas.Option.{slice_get_within, get_or_from_slice_get}

-- one more of what is counted
pub counted_more : {A B : Type 0} (f : ℕ × A → B) (xs : List A) (n : ℕ) (x : A) → slice_get xs n ≡ Some x
    → map f (take (n + 1) (enumerate_from 1 xs)) ≡ map f (take n (enumerate_from 1 xs)) ++ f (n + 1, x) ∷ []
counted_more {A} {B} f xs n x there =
    let inside : n < length xs = slice_get_within xs n x there in
    let within : n < length (enumerate_from 1 xs) = omega (arith, inside, length-enumerate_from 1 xs) in
    let number : 1 + n ≡ n + 1 = omega arith in
    let item : get_or (enumerate_from 1 xs) n (0, x) ≡ (n + 1, x) =
    get_or-enumerate_from 1 xs n (0, x) inside
    ∙ ap (λ (y : A). (1 + n, y)) (get_or_from_slice_get xs n x x there)
    ∙ ap (λ (m : ℕ). (m, x)) number in
    ap (map f) (take_more (enumerate_from 1 xs) n (0, x) within)
    ∙ map-append f (take n (enumerate_from 1 xs)) (get_or (enumerate_from 1 xs) n (0, x) ∷ [])
    ∙ ap (λ (y : ℕ × A). map f (take n (enumerate_from 1 xs)) ++ f y ∷ []) item

-- all of them
pub counted_all : {A B : Type 0} (f : ℕ × A → B) (xs : List A) (n : ℕ) → n ≡ length xs
    → map f (take n (enumerate_from 1 xs)) ≡ map f (enumerate_from 1 xs)
counted_all f xs n whole =
    ap (λ (m : ℕ). map f (take m (enumerate_from 1 xs))) (whole ∙ sym (length-enumerate_from 1 xs))
    ∙ ap (map f) (take-length (enumerate_from 1 xs))
