-- The bytes of a list of bytes, wherever they stand.
use Rattle.std.specs.Prelude.{ℕ, List}
use Rattle.chart_model.specs.declared.octets.Bytes.{Bytes}
use Rattle.chart_model.specs.declared.octets.Bytes.TheVariants.{Short, Long}

abbrev pub bytes_of : Bytes → List ℕ
bytes_of (Short short alloc) = short
bytes_of (Long all) = all.items
