-- the first value, and those up to the index, each behind a space
use Rattle.std.proofs.Common.{◌≡◌, ◌++◌, ◌∷◌, take}
use Rattle.std.specs.List.{flat_map, join_with_byte}
use Rattle.session_core.specs.Values.{words_of}
use Rattle.session_core.proofs.values.join.Given as goal

abbrev pub invariant-loop-value : goal.invariant-loop-value
invariant-loop-value l =
    l.words ≡ l.initial.words ++ flat_map (λ value. 32 ∷ join_with_byte 32 (words_of value)) (take l.value-index l.rest)
