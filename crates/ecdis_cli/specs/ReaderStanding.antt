-- Where a reader stands.
use Rattle.std.specs.Prelude.{ℕ, List}
use Rattle.ecdis_cli.specs.declared.run.devices.Devices.{Devices}
use Rattle.ecdis_cli.specs.declared.run.reader.Reader.{Reader}
use Rattle.ecdis_cli.specs.Devices.{panels_in}
use Rattle.ecdis_cli.specs.Panels.{Members, PanelValue}
use Rattle.ecdis_cli.specs.Standing.{Standing, standing_of}

-- where so much was said, the shelf has failed so often, so many steps were counted and the panels are these
abbrev pub reader_standing : Reader → List ℕ → ℕ → ℕ → List PanelValue → Standing
reader_standing reader said faults count panels =
    standing_of reader.session said faults count panels reader.number reader.line.items

-- the same, as the devices have it
abbrev pub reader_at : {L D C X : Type 0} {V : X → Type 0} → (L → ℕ) → (D → List ℕ) → Members X V
    → Reader → Devices L D C X V → Standing
reader_at faults said members reader devices =
    reader_standing reader (said devices.desk.now) (faults devices.shelf.now) devices.steps.now
    (panels_in members devices)
