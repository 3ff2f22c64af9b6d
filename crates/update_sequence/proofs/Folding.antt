-- Changes, one after the other.
use Rattle.std.proofs.Common.{◌≡◌, ◌≢◌, List, [], ◌∷◌, ◌++◌, Option, Some, None, Result, Ok, Err, refl, sym, ◌∙◌, ap}
use Rattle.std.specs.Option.{option_map}
use Rattle.chart_model.specs.Cell.{CellValue}
use Rattle.chart_model.specs.Change.{Change}
use Rattle.update_apply.specs.Fault.{Judges, fault_of}
use Rattle.update_apply.specs.Changed.{cell_after}
use Rattle.update_apply.specs.declared.fault.ChangeFault.{ChangeFault}
use Rattle.update_apply.specs.declared.fault.ChangeFault.TheVariants as of_change
use Rattle.update_sequence.specs.declared.fault.BuildFault.{BuildFault}
use Rattle.update_sequence.specs.declared.fault.BuildFault.TheVariants as of_build
use Rattle.update_sequence.specs.Answers.{GivesBuilt, fault_of_change}
use Rattle.chart_model.specs.Answers.{unless, ◌>>=◌}
use Rattle.update_sequence.specs.Built.{folded, folded_after}

-- what a change and those after it make, by the fault of the change
abbrev pub after_change : CellValue → Change → List Change → Option ChangeFault → Result CellValue BuildFault
after_change cell change rest fault =
    unless (option_map of_build.Change fault) (cell_after cell change) >>= (λ after. folded after rest)

pub folded-cons : (cell : CellValue) (change : Change) (rest : List Change) → folded cell (change ∷ rest) ≡ after_change cell change rest (fault_of cell change)
unfolding folded
folded-cons cell change rest = refl

-- ---- lists behind one another

bind-ok-again : (r : Result CellValue BuildFault) → (r >>= (λ x. Ok x)) ≡ r
bind-ok-again (Ok x) = refl
bind-ok-again (Err fault) = refl

bind-bind : (r : Result CellValue BuildFault) (f g : CellValue → Result CellValue BuildFault) → (r >>= (λ x. f x >>= g)) ≡ ((r >>= f) >>= g)
bind-bind (Ok x) f g = refl
bind-bind (Err fault) f g = refl

pub folded-one : (cell : CellValue) (change : Change)
    → folded cell (change ∷ []) ≡ unless (option_map of_build.Change (fault_of cell change)) (cell_after cell change)
unfolding folded
folded-one cell change =
    bind-ok-again (unless (option_map of_build.Change (fault_of cell change)) (cell_after cell change))

pub folded-append : (cell : CellValue) (first rest : List Change) → folded cell (first ++ rest) ≡ folded_after (folded cell first) rest
unfolding folded
folded-append cell [] rest = refl
folded-append cell (change ∷ first) rest =
    let made : Result CellValue BuildFault =
    unless (option_map of_build.Change (fault_of cell change)) (cell_after cell change) in
    (λ i. made >>= (λ after. folded-append after first rest i))
    ∙ bind-bind made (λ after. folded after first) (λ after. folded after rest)

-- a change that has no fault is made
pub folded-step : (cell after : CellValue) (change : Change) (rest : List Change) → None ≡ fault_of cell change →
    after ≡ cell_after cell change → folded cell (change ∷ rest) ≡ folded after rest
folded-step cell after change rest none made =
    folded-cons cell change rest
    ∙ ap (after_change cell change rest) (sym none)
    ∙ ap (λ (x : CellValue). folded x rest) (sym made)

-- a fault of a change that is told is one of the chart
as-change : (fault : ChangeFault) → fault_of_change fault ≢ of_build.NoMemory → of_build.Change fault ≡ fault_of_change fault
as-change of_change.NoMemory differs = absurd (differs refl)
as-change fault differs = refl

refused_first : (fault : ChangeFault) (found : Option ChangeFault) (cell : CellValue) (change : Change) (rest : List Change) → Judges (Err fault) found →
    GivesBuilt {X = CellValue} (Err (fault_of_change fault)) (after_change cell change rest found)
refused_first fault None cell change rest h = λ differs.
    absurd (let e : ◌≡◌ {A = Result (Unit {0}) ChangeFault} (Ok tt) (Err fault) = h (λ e. differs (ap fault_of_change e)) in cc)
refused_first fault (Some what) cell change rest h = λ differs.
    let same : what ≡ fault = cc in ap (λ (f : ChangeFault). Err (of_build.Change f)) same ∙ ap Err (as-change fault differs)

pub folded-refused : (cell : CellValue) (change : Change) (rest : List Change) (fault : ChangeFault) → Judges (Err fault) (fault_of cell change)
    → GivesBuilt {X = CellValue} (Err (fault_of_change fault)) (folded cell (change ∷ rest))
folded-refused cell change rest fault found =
    rw (folded-cons cell change rest) (refused_first fault (fault_of cell change) cell change rest found)
