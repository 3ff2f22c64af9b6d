-- What the tests of numbers' bytes tell.
use Rattle.std.proofs.Common.{◌≡◌, ℕ, zero, suc, ◌<◌, ◌≤◌, true, List, [], ◌∷◌, length, get_or, take, drop, Some, refl, arith}
use Rattle.std.specs.Int.{Width, byte_len, from_be_bytes}
use Rattle.std.specs.List.{AllByRecursion}
use Rattle.std.proofs.lemmas.Bool.{le-leb, lt-ltb, ltb-true, and_parts, and_from}
use Rattle.page_parts.specs.Numbers.{are_bytes, number_at}

-- every number of a list is a byte
abbrev pub AreSmall : List ℕ → Type 0
AreSmall bytes = (i : ℕ) → get_or bytes i 0 < 256

pub small_bytes : (bytes : List ℕ) → are_bytes bytes ≡ true → AreSmall bytes
unfolding are_bytes
small_bytes [] all i = omega arith
small_bytes (x ∷ xs) all zero = ltb-true x 256 (and_parts _ _ all).0
small_bytes (x ∷ xs) all (suc i) = small_bytes xs (and_parts _ _ all).1 i

pub front_small : (n : ℕ) (bytes : List ℕ) → AreSmall bytes → are_bytes (take n bytes) ≡ true
unfolding are_bytes
front_small zero bytes small = refl
front_small (suc n) [] small = refl
front_small (suc n) (x ∷ xs) small = and_from _ _ (lt-ltb x 256 (small 0)) (front_small n xs (λ i. small (suc i)))

-- what is read where the bytes are long enough
pub number_found : (width : Width) (bytes rest : List ℕ) (n : ℕ) → AreSmall bytes → byte_len width ≤ length bytes
    → n ≡ from_be_bytes width (take (byte_len width) bytes) → rest ≡ drop (byte_len width) bytes → number_at width bytes ≡ Some (n, rest)
number_found width bytes rest n small long is behind =
    rw (is, behind, le-leb _ _ long, front_small (byte_len width) bytes small) refl

-- each of a few is a byte
pub all_small : (bytes : List ℕ) → AllByRecursion (λ n. n < 256) bytes → are_bytes bytes ≡ true
unfolding are_bytes
all_small [] small = refl
all_small (x ∷ xs) small = and_from _ _ (lt-ltb x 256 small.0) (all_small xs small.1)
