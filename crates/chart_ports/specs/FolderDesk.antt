-- What contracts see of the desk of a folder.
use Rattle.std.specs.Prelude.{ℕ, Bool, is_some}
use Rattle.chart_ports.specs.declared.folder_desk.FolderDesk.{FolderDesk}

-- how often a call has failed
abbrev pub faults_of : {R File Dir : Type 0} → FolderDesk R File Dir → ℕ
faults_of desk = desk.faults

-- whether the files of the store are open
abbrev pub is_open : {R File Dir : Type 0} → FolderDesk R File Dir → Bool
is_open desk = is_some desk.files
