-- The first fault of a change of a record, judged by what the cell has under its name.
use Rattle.std.specs.Prelude.{◌≡◌, ℕ, ◌+◌, ◌==◌, nat_lt, Bool, false, not, ◌&&◌, ◌||◌, if◌then◌else◌, List, [], ◌∷◌}
use Rattle.std.specs.Prelude.{length, Option, Some, None, Result, Ok, Err}
use Rattle.std.specs.Option.{option_map, is_some}
use Rattle.std.specs.Bool.{beq}
use Rattle.std.specs.FinMap as map
use Rattle.chart_model.specs.declared.name.Name.{Name}
use Rattle.chart_model.specs.declared.name.Foid.{Foid}
use Rattle.chart_model.specs.declared.record.Coord.{Coord}
use Rattle.chart_model.specs.declared.cell.Vector.{Vector}
use Rattle.chart_model.specs.declared.cell.Feature.{Feature}
use Rattle.chart_model.specs.declared.update_record.Control.{Control}
use Rattle.chart_model.specs.Cell.{CellValue}
use Rattle.chart_model.specs.Change.{Change}
use Rattle.chart_model.specs.Answers.{first_of, when}
use Rattle.chart_model.specs.Memory.{Gives}
use Rattle.chart_model.specs.Codes.{FEATURE, INSERT, DELETE, MODIFY}
use Rattle.update_apply.specs.declared.judge.HeldRecord.{HeldRecord}
use Rattle.update_apply.specs.declared.fault.ChangeFault.{ChangeFault}
use Rattle.update_apply.specs.declared.fault.ChangeFault.TheVariants as fault

-- ---- what is kept

-- the coordinates of one record are alike, so the first tells
abbrev pub have_depths : List Coord → Bool
have_depths [] = false
have_depths (coord ∷ more) = is_some coord.z

abbrev pub held_vector : Vector → HeldRecord
held_vector vector = record {
  version = vector.version;
  foid = None;
  attrs = map.len vector.attrs;
  pointers = length vector.pointers;
  coords = length vector.coords;
  depths = have_depths vector.coords;
  related = 0;
}

abbrev pub held_feature : Feature → HeldRecord
held_feature feature = record {
  version = feature.version;
  foid = Some feature.foid;
  attrs = map.len feature.attrs;
  pointers = length feature.pointers;
  coords = 0;
  depths = false;
  related = length feature.related;
}

abbrev pub is_feature : Name → Bool
is_feature name = name.rcnm == FEATURE

abbrev pub held_under : CellValue → Name → Option HeldRecord
held_under cell name =
    if is_feature name
    then option_map held_feature (map.get cell.features name)
    else option_map held_vector (map.get cell.vectors name)

-- ---- the conditions

abbrev pub inserts : Change → Bool
inserts change = change.ruin == INSERT

abbrev pub deletes : Change → Bool
deletes change = change.ruin == DELETE

abbrev pub modifies : Change → Bool
modifies change = change.ruin == MODIFY

-- the kept version and 1, and in a deletion the kept version too
abbrev pub fits_version : Change → ℕ → Bool
fits_version change held = (change.version == held + 1) || (deletes change && (change.version == held))

abbrev pub same_foid : Foid → Foid → Bool
same_foid x y = (x.agen == y.agen) && (x.fidn == y.fidn) && (x.fids == y.fids)

-- an identifier that is given and isn't the one that is kept
abbrev pub foid_fault : Name → Option Foid → Option Foid → Option ChangeFault
foid_fault name (Some held) (Some given) = when (not (same_foid held given)) (fault.Foid name held given)
foid_fault name (Some held) None = None
foid_fault name None given = None

-- items that are given without a control field
abbrev pub control_fault : {A : Type 0} → Name → Option Control → List A → Option ChangeFault
control_fault name None (item ∷ given) = Some (fault.NoControl name)
control_fault name None [] = None
control_fault name (Some control) given = None

-- another number of items than the control field of an insertion or a replacement states
abbrev pub count_fault : {A : Type 0} → Name → Option Control → List A → Option ChangeFault
count_fault name None given = None
count_fault name (Some control) given =
    when (not (control.instruction == DELETE) && not (control.count == length given))
    (fault.Count name control.count (length given))

-- the place behind the last item that is deleted or replaced, from 1; of an insertion its own place
abbrev pub behind : Control → ℕ
behind control = if control.instruction == INSERT then control.index else control.index + control.count

-- a place 0, or one that is over the list's length
abbrev pub index_fault : Name → Option Control → ℕ → Option ChangeFault
index_fault name None held = None
index_fault name (Some control) held =
    when ((control.index == 0) || nat_lt (held + 1) (behind control)) (fault.Index name held control.index)

-- coordinates with depths put among coordinates without, or the other way round
abbrev pub mixed_fault : Name → Option Control → HeldRecord → List Coord → Option ChangeFault
mixed_fault name None held given = None
mixed_fault name (Some control) held [] = None
mixed_fault name (Some control) held (coord ∷ more) =
    when (not (control.instruction == DELETE) && not (held.coords == 0) && not (beq held.depths (is_some coord.z)))
    (fault.Mixed name)

-- ---- the first fault

-- the faults of the three edits of a modification, in the order in which they count
abbrev pub edit_faults : Change → HeldRecord → List (Option ChangeFault)
edit_faults change held =
    control_fault change.target change.pointer_edit change.pointers
    ∷ control_fault change.target change.coord_edit change.coords
    ∷ control_fault change.target change.related_edit change.related
    ∷ count_fault change.target change.pointer_edit change.pointers
    ∷ count_fault change.target change.coord_edit change.coords
    ∷ count_fault change.target change.related_edit change.related
    ∷ index_fault change.target change.pointer_edit held.pointers
    ∷ index_fault change.target change.coord_edit held.coords
    ∷ index_fault change.target change.related_edit held.related
    ∷ mixed_fault change.target change.coord_edit held change.coords
    ∷ []

-- other changes edit no list
abbrev pub edits_fault : Change → HeldRecord → Option ChangeFault
edits_fault change held = if modifies change then first_of (edit_faults change held) else None

-- the faults of a change of a record that is kept, in the order in which they count
abbrev pub held_faults : Change → HeldRecord → List (Option ChangeFault)
held_faults change held =
    when (inserts change) (fault.Present change.target)
    ∷ when (not (fits_version change held.version)) (fault.Version change.target held.version change.version)
    ∷ foid_fault change.target held.foid change.foid
    ∷ edits_fault change held
    ∷ []

-- the first fault of a change, by what is kept under its name
abbrev pub fault_by : Option HeldRecord → Change → Option ChangeFault
fault_by None change = when (not (inserts change)) (fault.Absent change.target)
fault_by (Some held) change = first_of (held_faults change held)

-- the first fault of a change of a record of the cell
abbrev pub fault_of : CellValue → Change → Option ChangeFault
fault_of cell change = fault_by (held_under cell change.target) change

-- the answer to a change, by its fault: want of memory comes only where it has none
abbrev pub Judges : Result (Unit {0}) ChangeFault → Option ChangeFault → Type 0
Judges answer None = Gives fault.NoMemory answer (Ok tt)
Judges answer (Some what) = answer ≡ Err what
