-- What contracts see of three files in memory.
use Rattle.std.specs.Prelude.{ℕ, ◌+◌, ◌≤◌, vec_len, vec_capacity}
use Rattle.chart_ports.specs.declared.images.Images.{Images}
use Rattle.chart_ports.specs.declared.memory_files.MemoryFiles.{MemoryFiles}

-- their bytes
abbrev pub files_in : MemoryFiles → Images
files_in files = record { head = files.head.items; bank1 = files.bank1.items; bank2 = files.bank2.items }

-- each has room for so many bytes more
pub record HasFileRoom (files : MemoryFiles) (n : ℕ) : Type 0 where
  pub head : vec_len files.head + n ≤ vec_capacity files.head
  pub bank1 : vec_len files.bank1 + n ≤ vec_capacity files.bank1
  pub bank2 : vec_len files.bank2 + n ≤ vec_capacity files.bank2
