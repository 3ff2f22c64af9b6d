-- What contracts see of the shelf of a folder.
use Rattle.std.specs.Prelude.{ℕ}
use Rattle.chart_ports.specs.declared.folder_shelf.FolderShelf.{FolderShelf}

-- how often a call has failed
abbrev pub faults_of : {R : Type 0} → FolderShelf R → ℕ
faults_of shelf = shelf.faults
