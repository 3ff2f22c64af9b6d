-- What calls answer that may run out of memory.
use Rattle.std.specs.Prelude.{◌≡◌, ◌≢◌, Result, Ok, Err}

-- The fault is the one that there is, unless it tells nothing: want of memory can befall any call.
abbrev pub Fails : {X E : Type 0} → E → E → Result X E → Type 0
Fails silent fault wanted = fault ≢ silent → wanted ≡ Err fault

-- The answer, seen by view, is what was to be answered, unless its fault tells nothing.
abbrev pub GivesBy : {X Y E : Type 0} → E → (X → Y) → Result X E → Result Y E → Type 0
GivesBy silent view (Ok x) wanted = wanted ≡ Ok (view x)
GivesBy silent view (Err fault) wanted = Fails silent fault wanted

abbrev pub Gives : {X E : Type 0} → E → Result X E → Result X E → Type 0
Gives silent answer wanted = GivesBy silent (λ x. x) answer wanted
