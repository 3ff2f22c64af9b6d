-- The shelf and the devices are kept by calls that follow one another.
use Rattle.std.proofs.Common.{ℕ, Bool, refl, ◌∙◌, arith}
use Rattle.session_core.specs.Fetch.{Files, KeepsShelf}
use Rattle.ecdis_cli.specs.Devices.{KeepsDevices}
use Rattle.ecdis_cli.specs.declared.run.devices.Devices.{Devices}

module _ {L : Type 0} (tells : Bool) (files : L → Files) (faults : L → ℕ) where
  -- no call was made
  pub shelf-none : (shelf : L) → KeepsShelf tells files faults shelf shelf
  shelf-none shelf = record { files_stay = λ t. refl; later = omega arith }

  pub shelf-then : (before middle now : L) → KeepsShelf tells files faults before middle → KeepsShelf tells files faults middle now
      → KeepsShelf tells files faults before now
  shelf-then before middle now x y = record {
    files_stay = λ t. y.files_stay t ∙ x.files_stay t;
    later = omega (arith, x.later, y.later);
  }

module _ {L D C X : Type 0} {V : X → Type 0} (tells : Bool) (files : L → Files) (shelf_faults : L → ℕ)
    (desk_faults : D → ℕ) where
  -- no call was made
  pub keeps-none : (devices : Devices L D C X V) → KeepsDevices tells files shelf_faults desk_faults devices devices
  keeps-none devices = record {
    same_shelf = refl;
    same_desk = refl;
    same_panels = refl;
    same_steps = refl;
    shelf = shelf-none tells files shelf_faults devices.shelf.now;
    desk_later = omega arith;
  }

  pub keeps-then : (before middle now : Devices L D C X V) → KeepsDevices tells files shelf_faults desk_faults before middle
      → KeepsDevices tells files shelf_faults desk_faults middle now → KeepsDevices tells files shelf_faults desk_faults before now
  keeps-then before middle now x y = record {
    same_shelf = y.same_shelf ∙ x.same_shelf;
    same_desk = y.same_desk ∙ x.same_desk;
    same_panels = y.same_panels ∙ x.same_panels;
    same_steps = y.same_steps ∙ x.same_steps;
    shelf = shelf-then tells files shelf_faults before.shelf.now middle.shelf.now now.shelf.now x.shelf y.shelf;
    desk_later = omega (arith, x.desk_later, y.desk_later);
  }
