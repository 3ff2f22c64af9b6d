-- What follows of an answer, and of those before it, where a value was answered.
use Rattle.std.proofs.Common.{◌≡◌, Bool, true, false, Result, Ok, Err, refl, subst}
use Rattle.s57_records.specs.declared.fault.DatasetFault.{DatasetFault}
use Rattle.chart_model.specs.Answers.{◌>>=◌}
use Rattle.s57_records.specs.Rows.{ensure}
use Rattle.s57_records.specs.Answers.{Gives}

pub bind_ok : {A B : Type 0} (r : Result A DatasetFault) (f : A → Result B DatasetFault) (y : B) → (r >>= f) ≡ Ok y → (x : A) × (r ≡ Ok x) × (f x ≡ Ok y)
bind_ok (Ok x) f y e = (x, refl, e)
bind_ok (Err d) f y e = absurd cc

pub ensure_ok : (test : Bool) (fault : DatasetFault) (x : Unit {0}) → ensure test fault ≡ Ok x → test ≡ true
ensure_ok true fault x e = refl
ensure_ok false fault x e = absurd cc

pub ok_is : {A : Type 0} (x y : A) → ◌≡◌ {A = Result A DatasetFault} (Ok x) (Ok y) → x ≡ y
ok_is x y e = cc

-- the same, for a goal: the value is a variable there
pub bind_then : {A B : Type 0} {P : Type 0} (r : Result A DatasetFault) (f : A → Result B DatasetFault) (y : B) → (r >>= f) ≡ Ok y → ((x : A) → r ≡ Ok x → f x ≡ Ok y → P) → P
bind_then (Ok x) f y e go = go x refl e
bind_then (Err d) f y e go = absurd cc

-- what was read is what was to be read
pub given : {A : Type 0} (read expected : Result A DatasetFault) (x : A) → Gives read expected → read ≡ Ok x → expected ≡ Ok x
given {A = A} read expected x gives e = subst (λ (r : Result A DatasetFault). Gives r expected) e gives
