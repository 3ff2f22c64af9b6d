-- All bytes of a call.
use Rattle.std.proofs.Common.{◌≡◌, ℕ, List, length, take, arith}
use Rattle.std.proofs.lemmas.List.{take_all}

pub take_whole : (bytes : List ℕ) → take (length bytes) bytes ≡ bytes
take_whole bytes = take_all (length bytes) bytes (omega arith)
