-- A chart that is extended by an update.
use Rattle.std.specs.Prelude.{Bool, true, not, ◌&&◌, ◌||◌, ◌==◌, List, Option, Some, None, is_some, is_none}
use Rattle.std.specs.Prelude.{◌≡◌, Result, Ok}
use Rattle.std.specs.List.{filter_map, list_all}
use Rattle.chart_model.specs.declared.name.Name.{Name}
use Rattle.chart_model.specs.declared.update_record.Control.{Control}
use Rattle.chart_model.specs.Answers.{when}
use Rattle.chart_model.specs.Memory as memory
use Rattle.chart_model.specs.Codes.{DELETE}
use Rattle.chart_model.specs.Cell.{CellValue}
use Rattle.chart_model.specs.Change.{Change}
use Rattle.chart_closure.specs.Closed.{fault_at, IsClosed}
use Rattle.update_apply.specs.Fault.{inserts, modifies, is_feature}
use Rattle.update_sequence.specs.Built.{folded}
use Rattle.update_sequence.specs.declared.fault.BuildFault.{BuildFault}
use Rattle.update_sequence.specs.declared.fault.BuildFault.TheVariants.{NoMemory}

-- the chart is now what was to be built, or the fault is told, unless memory ran out
abbrev pub GivesExtended : Result (Unit {0}) BuildFault → CellValue → Result CellValue BuildFault → Type 0
GivesExtended answer now wanted = memory.GivesBy NoMemory (λ done. now) answer wanted

-- an edit of coordinates that takes none away
abbrev pub keeps_coords : Option Control → Bool
keeps_coords None = true
keeps_coords (Some control) = not (control.instruction == DELETE)

-- no record but the changed one can get a fault of closure by the change: it deletes no record, and of a vector
-- record no coordinate, and leaves the pointers of a vector record
abbrev pub is_local : Change → Bool
is_local change =
    inserts change
    || (modifies change
    && (is_feature change.target || (is_none change.pointer_edit && keeps_coords change.coord_edit)))

abbrev pub are_local : List Change → Bool
are_local changes = list_all is_local changes

-- the changed record itself may get a fault of closure by such a change: it is new, or its pointers are edited
abbrev pub asks_closure : Change → Bool
asks_closure change = not (modifies change) || is_some change.pointer_edit

abbrev pub asked_target : Change → Option Name
asked_target change = when (asks_closure change) change.target

-- no record of these names has a fault of closure
abbrev pub are_faultless : CellValue → List Name → Bool
are_faultless chart names = list_all (λ name. is_none (fault_at chart name)) names

-- no record that may have got a fault of closure has one
abbrev pub have_no_closure_fault : CellValue → List Change → Bool
have_no_closure_fault chart changes = are_faultless chart (filter_map asked_target changes)

-- The chart that the changes leave is closed where no record of these names has a fault: no other needs to be looked at.
abbrev pub AreEnough : List Name → CellValue → List Change → Type 0
AreEnough names chart changes =
    (after : CellValue) → folded chart changes ≡ Ok after → are_faultless after names ≡ true → IsClosed after
