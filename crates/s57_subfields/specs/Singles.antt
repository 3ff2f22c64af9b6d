-- A subfield that stands once, with the kind of its value.
use Rattle.std.specs.Prelude.{ℕ, List, Option}
use Rattle.iso8211_formats.specs.Layout.{Layout}
use Rattle.s57_subfields.specs.Places.{subfield_of}
use Rattle.s57_subfields.specs.declared.single.Single.{Single}

-- A kind that says no more than its name is `record {}`: which kind it is says the type of the row's subfield.
abbrev pub single_of : {K : Type 0} → Option Layout → List ℕ → K → Single K
single_of layout label kind = record { subfield = subfield_of layout label; kind = kind }
