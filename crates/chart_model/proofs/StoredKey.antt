-- A key's bytes with zeros behind them are how a key stands in its cells.
use Rattle.std.proofs.Common.{◌≡◌, ℕ, ◌-◌, List, length, take, replicate, arith}
use Rattle.std.proofs.lemmas.List.{length-append, length-replicate}
use Rattle.std.proofs.Math.Seq.{take-append_seam, drop-append_seam}
use Rattle.chart_model.specs.Key.{IsKey, IsStored, key_cells}

pub take-key_cells : (bytes : List ℕ) → take (length bytes) (key_cells bytes) ≡ bytes
take-key_cells bytes = take-append_seam bytes (replicate (32 - length bytes) 0)

pub IsStored-key_cells : (bytes : List ℕ) → IsKey bytes → IsStored (key_cells bytes) (length bytes)
IsStored-key_cells bytes key = record {
  long = simp (length-append, length-replicate) (omega (arith, key.short));
  key = rw take-key_cells key;
  fits = key.short;
  rest = drop-append_seam bytes (replicate (32 - length bytes) 0);
}
