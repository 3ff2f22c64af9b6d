-- What follows from a step that gave a value.
use Rattle.std.proofs.Common.{◌≡◌, Bool, true, false, ◌⊎◌, Option, Some, None, refl, inl, inr}
use Rattle.std.specs.Option.{option_or}
use Rattle.iso8211_formats.specs.Reading.{◌>>=◌, when}

pub bind_some : {A B : Type 0} (o : Option A) (f : A → Option B) (y : B) → (o >>= f) ≡ Some y → (x : A) × (o ≡ Some x) × (f x ≡ Some y)
bind_some None f y e = absurd cc
bind_some (Some x) f y e = (x, refl, e)

pub guarded_some : {A : Type 0} (b : Bool) (x y : A) → when b x ≡ Some y → (b ≡ true) × (x ≡ y)
guarded_some true x y e = (refl, cc)
guarded_some false x y e = absurd cc

pub or_some : {A : Type 0} (o p : Option A) (y : A) → option_or o p ≡ Some y → (o ≡ Some y) ⊎ (p ≡ Some y)
or_some None p y e = inr e
or_some (Some x) p y e = inl e
