-- What contracts see of a source that reads.
use Rattle.std.specs.Prelude.{ℕ, Bool}
use Rattle.chart_ports.specs.declared.std_source.StdSource.{StdSource}

-- what it reads from
abbrev pub reader_of : {R : Type 0} → StdSource R → R
reader_of source = source.reader

-- how many bytes it has given
abbrev pub given_of : {R : Type 0} → StdSource R → ℕ
given_of source = source.given

-- whether the last pull into a buffer with room answered 0
abbrev pub is_at_end : {R : Type 0} → StdSource R → Bool
is_at_end source = source.is_at_end

-- how often a call has failed
abbrev pub faults_of : {R : Type 0} → StdSource R → ℕ
faults_of source = source.faults
