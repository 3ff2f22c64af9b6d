-- How many items of lists a change may move of the record that is kept under its name.
use Rattle.std.specs.Prelude.{ℕ, ◌+◌, ◌*◌, ◌==◌, if◌then◌else◌, min, length, Option, Some, None}
use Rattle.chart_model.specs.declared.update_record.Control.{Control}
use Rattle.chart_model.specs.Change.{Change}
use Rattle.chart_model.specs.Codes.{MODIFY}
use Rattle.update_apply.specs.declared.judge.HeldRecord.{HeldRecord}
use Rattle.update_apply.specs.Fault.{modifies}

-- an edit of a list of so many items may move all of them, but for a replacement, which moves none
abbrev pub items_shifted : Option Control → ℕ → ℕ
items_shifted None length = 0
items_shifted (Some control) length = if control.instruction == MODIFY then 0 else length

-- the items of the three lists, and the attributes once for each that is set, of which at most 32 count
abbrev pub items_moved : HeldRecord → Change → ℕ
items_moved held change =
    held.attrs * min (length change.attrs) 32
    + items_shifted change.pointer_edit held.pointers
    + items_shifted change.coord_edit held.coords
    + items_shifted change.related_edit held.related

-- a modification alone moves items
abbrev pub cost_of : Option HeldRecord → Change → ℕ
cost_of None change = 0
cost_of (Some held) change = if modifies change then items_moved held change else 0
