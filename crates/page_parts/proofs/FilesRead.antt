-- Files are read as they are spelled.
use Rattle.std.proofs.Common.{ℕ, List, length, leb, arith}
use Rattle.std.proofs.lemmas.Bool.{le-leb, leb-true}
use Rattle.chart_model.specs.State.{IsFileLength}
use Rattle.page_parts.specs.Reader.{Reads}
use Rattle.page_parts.specs.Texts.{file_at, text}
use Rattle.page_parts.proofs.NumbersRead.{text_reads}
use Rattle.page_parts.proofs.ReadBehind.{ranged_as, read_that}

abbrev pub IsFile : List ℕ → Type 0
IsFile file = IsFileLength (length file)

pub file_reads : Reads file_at text IsFile
unfolding file_at
file_reads =
    ranged_as IsFile
    (read_that (λ (file : List ℕ). leb (length file) 8388608) IsFile text_reads (λ file e. leb-true (length file) 8388608 e) (λ file is. le-leb (length file) 8388608 is))
    (λ file h. h.1)
    (λ file is. (omega arith, is))
