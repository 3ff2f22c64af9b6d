-- What is seen of the devices that a run works with, and what each call leaves of them.
use Rattle.std.specs.Prelude.{◌≡◌, ℕ, ◌≤◌, Bool, List}
use Rattle.chart_ports.specs.Moments.{LeavesOnly}
use Rattle.chart_ports.specs.declared.images.Images.{Images}
use Rattle.session_core.specs.Fetch.{Files, KeepsShelf}
use Rattle.ecdis_cli.specs.Panels.{Members, PanelValue, values_of}
use Rattle.ecdis_cli.specs.declared.run.devices.Devices.{Devices}

-- the panels among them
abbrev pub panels_in : {L D C X : Type 0} {V : X → Type 0} → Members X V → Devices L D C X V → List PanelValue
panels_in members devices = values_of members devices.panels.now.items

-- They are the same ones: the shelf's files stay, and no count of faults falls.
pub record KeepsDevices {L D C X : Type 0} {V : X → Type 0} (tells : Bool) (files : L → Files) (shelf_faults : L → ℕ)
    (desk_faults : D → ℕ) (before now : Devices L D C X V) : Type 0 where
  pub same_shelf : now.shelf.ghost_name ≡ before.shelf.ghost_name
  pub same_desk : now.desk.ghost_name ≡ before.desk.ghost_name
  pub same_panels : now.panels.ghost_name ≡ before.panels.ghost_name
  pub same_steps : now.steps.ghost_name ≡ before.steps.ghost_name
  pub shelf : KeepsShelf tells files shelf_faults before.shelf.now now.shelf.now
  pub desk_later : desk_faults before.desk.now ≤ desk_faults now.desk.now

-- a crash leaves nothing else, at any moment from the desk before to the desk now
abbrev pub LeavesBetween : {L D C X : Type 0} {V : X → Type 0} → (D → ℕ) → (D → ℕ → Images → List ℕ → Type 0)
    → Devices L D C X V → Devices L D C X V → (Images → List ℕ → Type 0) → Type 0
LeavesBetween clock might before now = LeavesOnly clock might before.desk.now now.desk.now

-- the same, where this held before
abbrev pub LeavesWhere : {L D C X : Type 0} {V : X → Type 0} → Type 0 → (D → ℕ) → (D → ℕ → Images → List ℕ → Type 0)
    → Devices L D C X V → Devices L D C X V → (Images → List ℕ → Type 0) → Type 0
LeavesWhere Held clock might before now Left = Held → LeavesBetween clock might before now Left
