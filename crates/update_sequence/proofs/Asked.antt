-- Names whose closure is asked, in place of that of the whole chart.
use Rattle.std.proofs.Common.{◌≡◌, ◌↔◌, true, is_none, List, ◌∷◌, Option, Some, None, IfSome, Contains, sym, ◌∙◌, ap}
use Rattle.std.specs.Prelude.{IsNone, ◌⊎◌}
use Rattle.std.specs.List.{filter_map}
use Rattle.chart_model.specs.Cell.{CellValue}
use Rattle.chart_model.specs.Change.{Change}
use Rattle.chart_model.specs.declared.dataset.Header.{Header}
use Rattle.chart_model.specs.declared.name.Name.{Name}
use Rattle.chart_closure.specs.Closed.{fault_at, IsClosed}
use Rattle.chart_closure.specs.Unchanged.{KeepsRecords, StandsAsBefore}
use Rattle.update_apply.specs.Changed.{cell_after}
use Rattle.update_apply.specs.Fault.{fault_of}
use Rattle.update_sequence.specs.Built.{begun, folded}
use Rattle.update_sequence.specs.Extended.{AreEnough, are_local, asked_target}
use Rattle.update_sequence.proofs.Folding.{folded-step}
use Rattle.update_sequence.proofs.LocalChanges.{stays-closed}
use Rattle.update_sequence.proofs.NameLists.{list_all-same}

-- the names of an update's changes are enough where all its changes are local, by the law of closed charts
pub enough-first : {A : Type 0} (items : A → List Name) (asked : Option A) →
    ((before after : CellValue) → IsClosed before → KeepsRecords before after →
    ((name : Name) → IsNone (fault_at after name) ⊎ StandsAsBefore before after name) → IsClosed after) →
    (chart first : CellValue) (header : Header) (changes left : List Change) → IsClosed chart →
    first ≡ begun (Some chart) header → left ≡ changes → IfSome asked (λ names. are_local changes ≡ true) →
    IfSome asked (λ names. (name : Name) →
    Contains (items names) name ↔ Contains (filter_map asked_target changes) name) →
    IfSome asked (λ names. AreEnough (items names) first left)
enough-first items None law chart first header changes left closed begins same local among = tt
enough-first items (Some names) law chart first header changes left closed begins same local among =
    λ after makes faultless.
    stays-closed law chart after header changes closed ((λ i. folded (sym begins i) (sym same i)) ∙ makes) local
    (sym (list_all-same (λ (name : Name). is_none (fault_at after name)) (items names)
    (filter_map asked_target changes) among) ∙ faultless)

-- and stay so where a change is made
pub enough-still : {A : Type 0} (items : A → List Name) (asked : Option A) (cell after : CellValue)
    (changes rest : List Change) (change : Change) → changes ≡ change ∷ rest → None ≡ fault_of cell change →
    after ≡ cell_after cell change → IfSome asked (λ names. AreEnough (items names) cell changes) →
    IfSome asked (λ names. AreEnough (items names) after rest)
enough-still items None cell after changes rest change e none made enough = tt
enough-still items (Some names) cell after changes rest change e none made enough =
    λ left makes. enough left (ap (folded cell) e ∙ folded-step cell after change rest none made ∙ makes)
