-- What calls answer that fetch files.
use Rattle.std.specs.Prelude.{◌≡◌, ℕ, ◌≤◌, Bool, IsTrue, IfErr, IsErrOf, Result}
use Rattle.chart_ports.specs.Count.{Rose}
use Rattle.session_core.specs.Fetch.{Files}
use Rattle.chart_picture.specs.End.{Gives, ends_fetching, ends_reading}
use Rattle.chart_picture.specs.declared.run.end.End.{End}
use Rattle.chart_picture.specs.declared.run.end.End.TheVariants.{ShelfFault}

-- What is read answers what is there to read, unless memory runs out, and ends the run for nothing but that and files.
pub record IsRead {A : Type 0} (answer wanted : Result A End) : Type 0 where
  pub read : Gives answer wanted
  pub ends : IfErr answer (λ end. IsTrue (ends_reading end))

-- A call answers what the shelf's files give, where the shelf tells them, unless the shelf failed or memory ran out. It
-- ends the run for nothing but these and files, and for the shelf only where that failed. The shelf's files stay, and
-- its count of faults doesn't fall.
pub record IsFetched {L A : Type 0} (tells : Bool) (files : L → Files) (faults : L → ℕ) (before now : L)
    (answer : Result A End) (wanted : Files → Result A End) : Type 0 where
  pub found : IsTrue tells → Gives answer (wanted (files before))
  pub ends : IfErr answer (λ end. IsTrue (ends_fetching end))
  pub failed : IsErrOf answer ShelfFault → Rose (faults before) (faults now)
  pub files_stay : IsTrue tells → files now ≡ files before
  pub later : faults before ≤ faults now
