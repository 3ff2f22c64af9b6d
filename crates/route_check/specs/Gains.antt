-- Lists that grow.
use Rattle.std.specs.Prelude.{◌↔◌, ◌⊎◌, List, Contains}

-- the new list has what the old one has, and exactly what has the property besides
abbrev pub Gains : {X : Type 0} → (X → Type 0) → List X → List X → Type 0
Gains {X} P old new = (x : X) → Contains new x ↔ (Contains old x ⊎ P x)
