-- What follows from a test that passed.
use Rattle.std.proofs.Common.{◌≡◌, ℕ, ◌<◌, ◌≤◌, arith, Bool, true, false, leb, ltb, eqb, refl}
use Rattle.std.specs.Prelude.{◌&&◌, ◌==◌}
use Rattle.std.proofs.lemmas.Bool.Decides.{nat_tests}

pub both_parts : (b c : Bool) → (b && c) ≡ true → (b ≡ true) × (c ≡ true)
both_parts true c e = (refl, e)
both_parts false c e = absurd cc

pub both : (b c : Bool) → b ≡ true → c ≡ true → (b && c) ≡ true
both true c e f = f
both false c e f = absurd cc

-- what `is_empty` says
pub empty-false : (n : ℕ) → false ≡ (n == 0) → 0 < n
empty-false n h = grind (arith, nat_tests)

pub empty-true : (n : ℕ) → true ≡ (n == 0) → n ≡ 0
empty-true n h = grind (arith, nat_tests)

-- what tests of numbers say
pub lt-is : (a b : ℕ) → ltb a b ≡ true → a < b
lt-is a b h = grind (arith, nat_tests)

pub le-test : (a b : ℕ) → a ≤ b → leb a b ≡ true
le-test a b h = grind (arith, nat_tests)

pub le-is : (a b : ℕ) → leb a b ≡ true → a ≤ b
le-is a b h = grind (arith, nat_tests)

pub eq-test : (a b : ℕ) → a ≡ b → eqb a b ≡ true
eq-test a b h = grind (arith, nat_tests)

pub eq-is : (a b : ℕ) → eqb a b ≡ true → a ≡ b
eq-is a b h = grind (arith, nat_tests)
