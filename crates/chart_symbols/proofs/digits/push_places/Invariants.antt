use Rattle.std.proofs.Common.{◌≡◌, ◌++◌, take}
use Rattle.std.specs.List.{flat_map}
use Rattle.chart_symbols.specs.Digits.{prefixed_at}
use Rattle.chart_symbols.proofs.digits.push_places.Given as goal

abbrev pub invariant-loop-place : goal.invariant-loop-place
invariant-loop-place l =
    l.symbols ≡ l.initial.symbols ++ flat_map (λ place. prefixed_at l.colours place.0 place.1.now) (take l.place-index l.places)
