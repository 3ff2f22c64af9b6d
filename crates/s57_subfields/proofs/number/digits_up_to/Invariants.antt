use Rattle.std.proofs.Common.{◌≡◌, ◌≤◌, drop}
use Rattle.s57_subfields.proofs.Digits.{scanned}
use Rattle.s57_subfields.proofs.number.digits_up_to.Given as goal

-- the rest of the digits goes on from the number so far
abbrev pub invariant-loop-byte : goal.invariant-loop-byte
invariant-loop-byte l = record {
  within : l.number ≤ l.most;
  goes_on : scanned l.most l.number (drop l.byte-index l.text) ≡ scanned l.most 0 l.text;
}
