-- A number is read as it is spelled.
use Rattle.std.proofs.Common.{◌≡◌, ℕ, ◌<◌, ◌≤◌, true, not, ltb, leb, eqb, ◌&&◌, List, length}
use Rattle.std.proofs.Common.{Some, None, sym, ap, inl, inr, arith}
use Rattle.std.specs.Prelude.{slice_index}
use Rattle.std.specs.Bool.{Decides}
use Rattle.std.specs.Str.{all_ascii_digits}
use Rattle.std.specs.Str.Parse.{digits_value}
use Rattle.std.proofs.lemmas.Bool.{ltb-true, lt-ltb, leb-true, le-leb, and_parts, and_from}
use Rattle.common_lemmas.proofs.Choices.{chosen, none_unless, some_is}
use Rattle.common_lemmas.proofs.Digits.{Decides-digits}
use Rattle.command_words.specs.Numbers.{IsNumber, SpellsNumber, is_number, number_from_to}

-- ---- the test of definitions

Decides-shortest : (text : List ℕ) → 0 < length text
    → Decides (not (eqb (slice_index text 0) 48 && ltb 1 (length text))) (slice_index text 0 ≡ 48 → length text ≡ 1)
Decides-shortest text some = go (slice_index text 0) (length text) some
  where
    go : (first count : ℕ) → 0 < count → Decides (not (eqb first 48 && ltb 1 count)) (first ≡ 48 → count ≡ 1)
    go first count some = grind arith

pub Decides-number : (text : List ℕ) → Decides (is_number text) (IsNumber text)
Decides-number text = (
  λ h.
      let p = and_parts (ltb 0 (length text)) _ h in
      let q = and_parts (all_ascii_digits text) _ p.1 in
      let some = ltb-true 0 (length text) p.0 in
      record { digits = (some, (Decides-digits text).0 q.0); shortest = (Decides-shortest text some).0 q.1 },
  λ n.
      and_from _ _ (lt-ltb 0 (length text) n.digits.0)
      (and_from _ _ ((Decides-digits text).1 n.digits.1) ((Decides-shortest text n.digits.0).1 n.shortest)),
)

-- ---- a number from one bound to another

pub from_to_found : (low high : ℕ) (text : List ℕ) (n : ℕ) → number_from_to low high text ≡ Some n
    → SpellsNumber text n × (low ≤ n) × (n ≤ high)
unfolding number_from_to
from_to_found low high text n e = elim (chosen _ (Some (digits_value 10 text)) None (Some n) e) [
  | inl h ↦
      let p = and_parts (is_number text) _ h.0 in
      let q = and_parts (leb low (digits_value 10 text)) _ p.1 in
      let same : n ≡ digits_value 10 text = sym (some_is _ _ h.1) in
      let lower = leb-true _ _ q.0 in
      let upper = leb-true _ _ q.1 in
      (((Decides-number text).0 p.0, same), omega arith, omega arith)
  | inr h ↦ absurd (let none = h.1 in cc)
]

pub from_to_again : (low high : ℕ) (text : List ℕ) (n : ℕ) → SpellsNumber text n → low ≤ n → n ≤ high
    → number_from_to low high text ≡ Some n
unfolding number_from_to
from_to_again low high text n is lower upper =
    let number = (Decides-number text).1 is.0 in
    let same = is.1 in
    let some : leb low (digits_value 10 text) ≡ true = le-leb _ _ (omega arith) in
    let few : leb (digits_value 10 text) high ≡ true = le-leb _ _ (omega arith) in
    rw (number, some, few) (ap (λ (k : ℕ). Some k) (sym is.1))

pub from_to_missing : (low high : ℕ) (text : List ℕ) → ((n : ℕ) → SpellsNumber text n → low ≤ n → n ≤ high → ⊥)
    → number_from_to low high text ≡ None
from_to_missing low high text other =
    none_unless (number_from_to low high text) (λ n e. let f = from_to_found low high text n e in other n f.0 f.1 f.2)
