-- the words that are marked, and those that are left, are all of them
use Rattle.std.proofs.Common.{◌≡◌, ◌++◌, map, drop}
use Rattle.std.specs.Prelude.{string_bytes}
use Rattle.picture_words.specs.Marked.{marked_from, marked_words}
use Rattle.picture_words.proofs.marked.marked_words.Given as goal

abbrev pub invariant-loop-word : goal.invariant-loop-word
invariant-loop-word l =
    map string_bytes l.marked.items ++ marked_from l.next (map string_bytes (drop l.word-index l.words))
    ≡ marked_words (map string_bytes l.words)
