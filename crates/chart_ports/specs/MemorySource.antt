-- What contracts see of a source in memory.
use Rattle.std.specs.Prelude.{ℕ, Bool, List, drop}
use Rattle.chart_ports.specs.declared.calls.Calls.{Calls}
use Rattle.chart_ports.specs.declared.memory_source.MemorySource.{MemorySource}

-- the bytes that are left
abbrev pub left_of : MemorySource → List ℕ
left_of source = drop source.at source.bytes.items

-- the most bytes that it gives a pull
abbrev pub pace_of : MemorySource → ℕ
pace_of source = source.pace

-- how many bytes it has given
abbrev pub given_of : MemorySource → ℕ
given_of source = source.given

-- whether the last pull into a buffer with room answered 0
abbrev pub is_at_end : MemorySource → Bool
is_at_end source = source.is_at_end

-- its calls
abbrev pub calls_of : MemorySource → Calls
calls_of source = source.calls
