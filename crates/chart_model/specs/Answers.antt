-- Answers of calls, and how definitions chain them.
use Rattle.std.specs.Prelude.{◌≡◌, Bool, if◌then◌else◌, List, [], ◌∷◌, Option, Some, None, IfSome, Result, Ok, Err}

-- what is done next with a value; a fault stays
infixl 10 ◌>>=◌
abbrev pub ◌>>=◌ : {A B E : Type 0} → Result A E → (A → Result B E) → Result B E
(Ok x) >>= next = next x
(Err fault) >>= next = Err fault

-- what there is, or the fault where there is nothing
abbrev pub or_fault : {A E : Type 0} → E → Option A → Result A E
or_fault fault None = Err fault
or_fault fault (Some x) = Ok x

-- the value, or its fault as another
abbrev pub or_fault_as : {A E F : Type 0} → (E → F) → Result A E → Result A F
or_fault_as other (Ok x) = Ok x
or_fault_as other (Err fault) = Err (other fault)

-- the value, unless there is a fault
abbrev pub unless : {A E : Type 0} → Option E → A → Result A E
unless None x = Ok x
unless (Some fault) x = Err fault

-- a fault where it is so
abbrev pub when : {E : Type 0} → Bool → E → Option E
when so fault = if so then Some fault else None

-- the first of the faults that are there
abbrev pub first_of : {E : Type 0} → List (Option E) → Option E
first_of [] = None
first_of (None ∷ more) = first_of more
first_of (Some fault ∷ more) = Some fault

-- ---- want of memory is free

-- the fault that is told is the one that there is; one that tells nothing, as want of memory, is free
abbrev pub FailsBy : {Y E F : Type 0} → (E → Option F) → E → Result Y F → Type 0
FailsBy told fault wanted = IfSome (told fault) (λ what. wanted ≡ Err what)

-- the answer, seen by view, is what was to be answered
abbrev pub GivesBy : {X Y E F : Type 0} → (E → Option F) → (X → Y) → Result X E → Result Y F → Type 0
GivesBy told view (Ok x) wanted = wanted ≡ Ok (view x)
GivesBy told view (Err fault) wanted = FailsBy told fault wanted

abbrev pub Gives : {X E F : Type 0} → (E → Option F) → Result X E → Result X F → Type 0
Gives told answer wanted = GivesBy told (λ x. x) answer wanted
