-- What files of lines share: the first fault among their lines.
use Rattle.std.specs.Prelude.{◌≡◌, ℕ, List, [], ◌∷◌, ◌++◌, Option, Some, None}
use Rattle.std.specs.Option.{option_or}

-- What is wrong with a line may depend on the lines before it, as on how many these are.
module _ {F : Type 0} (fault_at : List (List ℕ) → List ℕ → Option F) where
  -- the fault of the first line that has one, behind lines before
  unfoldable pub first_fault : List (List ℕ) → List (List ℕ) → Option F
  first_fault before [] = None
  first_fault before (line ∷ rest) = option_or (fault_at before line) (first_fault (before ++ line ∷ []) rest)

  -- no line has a fault
  abbrev pub AreFaultless : List (List ℕ) → Type 0
  AreFaultless before = (front back : List (List ℕ)) (line : List ℕ) →
      before ≡ front ++ line ∷ back → fault_at front line ≡ None

  -- a line has the fault, and no line before it has one
  pub record HasFirstFault (all : List (List ℕ)) (fault : F) : Type 0 where
    pub before : List (List ℕ)
    pub line : List ℕ
    pub rest : List (List ℕ)
    pub whole : all ≡ before ++ line ∷ rest
    pub faultless : AreFaultless before
    pub here : fault_at before line ≡ Some fault
