-- A list of a record, edited by its control field.
use Rattle.std.specs.Prelude.{◌≡◌, ℕ, ◌+◌, ◌-◌, ◌==◌, if◌then◌else◌, List, [], ◌++◌, length, take, drop, Option, Some}
use Rattle.std.specs.Prelude.{None, ◌≤◌, IfSome}
use Rattle.std.specs.Int.{IsInRange}
use Rattle.chart_model.specs.declared.update_record.Control.{Control}
use Rattle.chart_model.specs.Codes.{INSERT, DELETE, MODIFY}

-- items are put at a place, taken out from it on, or replaced from it on; places count from 1
abbrev pub edited_by : {A : Type 0} → Control → List A → List A → List A
edited_by control given items =
    let front = control.index - 1 in
    if control.instruction == INSERT then take front items ++ given ++ drop front items
    else if control.instruction == DELETE then take front items ++ drop (front + control.count) items
    else take front items ++ given ++ drop (front + control.count) items

-- a list without a control field stays
abbrev pub list_after : {A : Type 0} → Option Control → List A → List A → List A
list_after None given items = items
list_after (Some control) given items = edited_by control given items

-- the items around the place stay. An insertion puts the given ones between them; a deletion takes out as
-- many as it states; a modification replaces as many by the given ones
pub record IsEditedBy {A : Type 0} (control : Control) (given old new : List A) : Type 0 where
  pub front : List A
  pub gone : List A
  pub come : List A
  pub back : List A
  pub old_is : old ≡ front ++ gone ++ back
  pub new_is : new ≡ front ++ come ++ back
  pub place : length front + 1 ≡ control.index
  pub insert : control.instruction ≡ INSERT → (gone ≡ []) × (come ≡ given)
  pub delete : control.instruction ≡ DELETE → (length gone ≡ control.count) × (come ≡ [])
  pub modify : control.instruction ≡ MODIFY → (length gone ≡ control.count) × (come ≡ given)

abbrev pub IsEdited : {A : Type 0} → Option Control → List A → List A → List A → Type 0
IsEdited None given old new = new ≡ old
IsEdited (Some control) given old new = IsEditedBy control given old new

-- the places of a control field are in the list, and it states how many items replace
pub record Fits {A : Type 0} (control : Control) (given items : List A) : Type 0 where
  pub instruction : IsInRange 1 3 control.instruction
  pub first : 1 ≤ control.index
  pub insert : control.instruction ≡ INSERT → control.index ≤ length items + 1
  pub delete : control.instruction ≡ DELETE → control.index + control.count ≤ length items + 1
  pub modify : control.instruction ≡ MODIFY →
      (control.index + control.count ≤ length items + 1) × (control.count ≡ length given)

abbrev pub FitsEach : {A : Type 0} → Option Control → List A → List A → Type 0
FitsEach edit given items = IfSome edit (λ control. Fits control given items)

-- how many items an edit adds at most
abbrev pub items_added : {A : Type 0} → Option Control → List A → ℕ
items_added None given = 0
items_added (Some control) given = if control.instruction == INSERT then length given else 0
