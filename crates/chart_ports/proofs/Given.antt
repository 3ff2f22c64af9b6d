-- The bytes behind those that were given.
use Rattle.std.proofs.Common.{◌≡◌, sym, ℕ, ◌+◌, List, drop}
use Rattle.std.proofs.lemmas.List.{drop-drop}

pub drop_further : (bytes : List ℕ) (at count : ℕ) → drop (at + count) bytes ≡ drop count (drop at bytes)
drop_further bytes at count = sym (drop-drop count at bytes)
