-- The calls of a source, a shelf or a desk in memory: those on a list fail, and each failure is counted.
use Rattle.std.specs.Prelude.{ℕ, ◌≡◌, ◌↔◌, List, Contains}
use Rattle.chart_ports.specs.Count.{one_more}
use Rattle.chart_ports.specs.declared.calls.Calls.{Calls}

-- no call was made yet
pub record IsNew (failing : List ℕ) (calls : Calls) : Type 0 where
  pub failing_is : calls.failing ≡ failing
  pub none_made : calls.made ≡ 0
  pub none_failed : calls.faults ≡ 0

-- the number of the next call is on the list
abbrev pub IsToFail : Calls → Type 0
IsToFail calls = Contains calls.failing (one_more calls.made)

-- a fault was counted, and no call
pub record CountsFault (old new : Calls) : Type 0 where
  pub failing_same : new.failing ≡ old.failing
  pub made_same : new.made ≡ old.made
  pub fault : new.faults ≡ one_more old.faults

-- a call was counted: it failed exactly where its number is on the list, and only then a fault was counted
pub record CountsCall (old new : Calls) (Fails : Type 0) : Type 0 where
  pub failing_same : new.failing ≡ old.failing
  pub made : new.made ≡ one_more old.made
  pub fails : Fails ↔ IsToFail old
  pub fault : Fails → new.faults ≡ one_more old.faults
  pub steady : ¬ Fails → new.faults ≡ old.faults

-- the same, where a call may also fail for want of memory
pub record CountsDeskCall (old new : Calls) (Fails : Type 0) : Type 0 where
  pub failing_same : new.failing ≡ old.failing
  pub made : new.made ≡ one_more old.made
  pub fault : Fails → new.faults ≡ one_more old.faults
  pub steady : ¬ Fails → new.faults ≡ old.faults
