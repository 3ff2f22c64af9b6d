-- Steps that may have a fault.
use Rattle.std.proofs.Common.{◌≡◌, Bool, true, false, cond, Result, Ok, Err, refl}
use Rattle.iso8211_records.specs.declared.fault.FileFault.{FileFault}
use Rattle.iso8211_records.specs.declared.fault.FileFault.TheVariants.{NoMemory}
use Rattle.iso8211_records.specs.Answers.{Fails}
use Rattle.chart_model.specs.Answers.{◌>>=◌}

-- the fault of a step is that of the steps
pub Fails-bind : {A B : Type 0} (fault : FileFault) (r : Result A FileFault) (f : A → Result B FileFault) → Fails fault r → Fails fault (r >>= f)
Fails-bind fault r f h = λ differs. rw (h differs) refl

-- and of what is the same
pub Fails-same : {A : Type 0} (fault : FileFault) (r s : Result A FileFault) → r ≡ s → Fails fault r → Fails fault s
Fails-same fault r s e h = rw e at h

-- what fails so is that fault
pub Fails-err : {A : Type 0} (fault : FileFault) (r : Result A FileFault) → Fails fault r → (fault ≡ NoMemory → ⊥) → r ≡ Err fault
Fails-err fault r h other = h other

-- and that fault is what fails so
pub Fails-from : {A : Type 0} (fault : FileFault) (r : Result A FileFault) → r ≡ Err fault → Fails fault r
Fails-from fault r h = λ _. h

-- the value of a step without a fault
pub bind_ok : {A B : Type 0} (r : Result A FileFault) (f : A → Result B FileFault) (y : B) → (r >>= f) ≡ Ok y → (x : A) × (r ≡ Ok x) × (f x ≡ Ok y)
bind_ok (Ok x) f y e = (x, refl, e)
bind_ok (Err fault) f y e = absurd cc

pub cond_ok : {A : Type 0} (b : Bool) (r : Result A FileFault) (fault : FileFault) (y : A) → cond b r (Err fault) ≡ Ok y → (b ≡ true) × (r ≡ Ok y)
cond_ok true r fault y e = (refl, e)
cond_ok false r fault y e = absurd cc

pub err_is : {A : Type 0} {f g : FileFault} → (let r : Result A FileFault = Err f in r ≡ Err g) → f ≡ g
err_is e = cc
