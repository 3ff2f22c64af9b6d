-- Texts: a length of eight bytes, and that many bytes.
use Rattle.std.specs.Prelude.{ℕ, nat_le, List, ◌++◌, length}
use Rattle.std.specs.Int.{w64}
use Rattle.page_parts.specs.Reader.{Reader, seen_as, that, then_by}
use Rattle.page_parts.specs.Numbers.{number, number_at, front_at}

unfoldable pub text : List ℕ → List ℕ
text bytes = number w64 (length bytes) ++ bytes

unfoldable pub text_at : Reader (List ℕ)
text_at bytes = seen_as (λ read. read.1) (then_by (number_at w64) front_at) bytes

-- a file has at most 8,388,608 bytes
unfoldable pub file_at : Reader (List ℕ)
file_at bytes = that (λ file. nat_le (length file) 8388608) text_at bytes
