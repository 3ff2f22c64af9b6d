-- What the tests of bytes tell.
use Rattle.std.proofs.Common.{◌≡◌, ℕ, zero, suc, ◌<◌, true, false, ◌↔◌, List, [], ◌∷◌, get_or, refl, arith}
use Rattle.std.specs.Int.{w32, to_be_bytes}
use Rattle.std.proofs.lemmas.Bool.{ltb-true, lt-ltb, and_parts, and_from, false_from_ne_true}
use Rattle.chart_model.specs.Key.{IsKey, is_key}
use Rattle.command_codec.specs.Reading.{are_bytes}

-- ---- keys

-- the test of definitions tells keys, as the law of keys says
abbrev pub KeysAreTested : Type 0
KeysAreTested = (bytes : List ℕ) → (is_key bytes ≡ true) ↔ IsKey bytes

pub no_key : KeysAreTested → (bytes : List ℕ) → ¬ IsKey bytes → is_key bytes ≡ false
no_key tested bytes not_key = false_from_ne_true (is_key bytes) (λ is. not_key ((tested bytes).0 is))

-- ---- bytes

pub small_bytes : (bytes : List ℕ) → are_bytes bytes ≡ true → (i : ℕ) → get_or bytes i 0 < 256
unfolding are_bytes
small_bytes [] all i = omega arith
small_bytes (x ∷ xs) all zero = ltb-true x 256 (and_parts _ _ all).0
small_bytes (x ∷ xs) all (suc i) = small_bytes xs (and_parts _ _ all).1 i

pub are_four : (a b c d : ℕ) → a < 256 → b < 256 → c < 256 → d < 256 → are_bytes (a ∷ b ∷ c ∷ d ∷ []) ≡ true
unfolding are_bytes
are_four a b c d a_in b_in c_in d_in = rw (lt-ltb a 256 a_in, lt-ltb b 256 b_in, lt-ltb c 256 c_in, lt-ltb d 256 d_in) refl

-- what is written is bytes
pub are_written : (n : ℕ) → are_bytes (to_be_bytes w32 n) ≡ true
are_written n = are_four _ _ _ _ (omega arith) (omega arith) (omega arith) (omega arith)

-- numbers of 8 bits are bytes
pub are_small : (bytes : List ℕ) → ((i : ℕ) → get_or bytes i 0 < 256) → are_bytes bytes ≡ true
unfolding are_bytes
are_small [] small = refl
are_small (x ∷ xs) small = and_from _ _ (lt-ltb x 256 (small 0)) (are_small xs (λ i. small (suc i)))
