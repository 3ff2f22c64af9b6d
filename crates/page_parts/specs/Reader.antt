-- Reading parts that stand one behind the other.
use Rattle.std.specs.Prelude.{◌≡◌, ℕ, Bool, if◌then◌else◌, List, ◌++◌, Option, Some, None, Result, Ok, Err}
use Rattle.page_parts.specs.declared.fault.PageFault.{PageFault}
use Rattle.page_parts.specs.declared.fault.PageFault.TheVariants.{Unspelled, NoMemory}

-- ---- what a call found

-- there is nothing to be read, unless memory ran out
abbrev pub Lacks : {Y : Type 0} → PageFault → Option Y → Type 0
Lacks Unspelled found = found ≡ None
Lacks NoMemory found = Unit {0}

-- what was returned, seen by view, is what there is to be read, unless memory ran out
abbrev pub Finds : {X Y : Type 0} → (X → Y) → Result X PageFault → Option Y → Type 0
Finds view (Ok x) found = found ≡ Some (view x)
Finds view (Err fault) found = Lacks fault found

-- ---- readers

-- what is done next with a value that there is
infixl 10 ◌>>=◌
abbrev pub ◌>>=◌ : {A B : Type 0} → Option A → (A → Option B) → Option B
None >>= next = None
(Some x) >>= next = next x

-- the value that bytes begin with, and the bytes behind it; none where they don't begin with one
abbrev pub Reader : Type 0 → Type 0
Reader X = List ℕ → Option (X × List ℕ)

-- a value, and behind it another whose reader the first decides
abbrev pub then_by : {A B : Type 0} → Reader A → (A → Reader B) → Reader (A × B)
then_by first second bytes = first bytes >>= λ a. second a.0 a.1 >>= λ b. Some ((a.0, b.0), b.1)

-- a value, and behind it another
abbrev pub then_at : {A B : Type 0} → Reader A → Reader B → Reader (A × B)
then_at first second bytes = first bytes >>= λ a. second a.1 >>= λ b. Some ((a.0, b.0), b.1)

-- a value, seen as another
abbrev pub seen_as : {A B : Type 0} → (A → B) → Reader A → Reader B
seen_as view reader bytes = reader bytes >>= λ a. Some (view a.0, a.1)

-- a value that passes a test
abbrev pub that : {A : Type 0} → (A → Bool) → Reader A → Reader A
that test reader bytes = reader bytes >>= λ a. if test a.0 then Some a else None

-- ---- what readers have to do with bytes

-- the reader finds each value in its range by its spelling, whatever stands behind that, and finds no other
pub record Reads {X : Type 0} (reader : Reader X) (spelling : X → List ℕ) (IsInRange : X → Type 0) : Type 0 where
  pub spelled : (bytes : List ℕ) (x : X) (rest : List ℕ) → reader bytes ≡ Some (x, rest) → bytes ≡ spelling x ++ rest
  pub ranged : (bytes : List ℕ) (x : X) (rest : List ℕ) → reader bytes ≡ Some (x, rest) → IsInRange x
  pub again : (x : X) (rest : List ℕ) → IsInRange x → reader (spelling x ++ rest) ≡ Some (x, rest)
