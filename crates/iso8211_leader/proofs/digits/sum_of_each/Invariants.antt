use Rattle.std.proofs.Common.{◌≡◌, ◌+◌, ◌*◌, ◌≤◌, ◌^◌, drop}
use Rattle.iso8211_leader.specs.Digits.{weight_sum}
use Rattle.iso8211_leader.proofs.digits.sum_of_each.Given as goal

abbrev pub invariant-loop-byte : goal.invariant-loop-byte
invariant-loop-byte l = record {
  rest : weight_sum l.sum (drop l.byte-index l.text) ≡ weight_sum 0 l.text;
  bound : l.sum + 1000000000 ≤ 2000000000 * 10 ^ l.byte-index;
}
