-- What holds after a call, from what its answer says.
use Rattle.std.proofs.Common.{◌≡◌, Bool, true, false, cond, Option, Some, None, IfSome, Result, Ok, Err, OnOk, refl}
use Rattle.std.specs.Option.{is_some}

pub on-ok : {X E P Q : Type 0} (r : Result X E) → OnOk r P → (P → Q) → OnOk r Q
on-ok (Ok x) p f = f p
on-ok (Err e) p f = tt

pub none-from : {X : Type 0} (o : Option X) → is_some o ≡ false → o ≡ None
none-from None e = refl
none-from (Some x) e = cc

-- what follows from the fact of a value that is there
pub some-then : {X : Type 0} (P Q : X → Type 0) → ((x : X) → P x → Q x) → (o : Option X) → IfSome o P → IfSome o Q
some-then P Q then None there = tt
some-then P Q then (Some x) there = then x there

-- what is given back says whether it could be used
pub used : {X : Type 0} (b : Bool) (x : X) → None ≡ cond b None (Some x) → b ≡ true
used true x e = refl
used false x e = cc

pub unused : {X : Type 0} (b : Bool) (x y : X) → Some y ≡ cond b None (Some x) → (b ≡ false) × (y ≡ x)
unused true x y e = cc
unused false x y e = (refl, cc)
