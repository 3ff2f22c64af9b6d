use Rattle.std.proofs.Common.{◌≡◌, take, drop, rules, arith}
use Rattle.std.specs.Int.{w16, byte_len, from_be_bytes}
use Rattle.page_parts.proofs.Bytes.{number_found}
use Rattle.page_parts.proofs.numbers.read_two_bytes.Goals as goal

pub returns : goal.returns
returns c =
    let is : c.from_be_bytes.result ≡ from_be_bytes w16 (take (byte_len w16) c.args.bytes.now) = search rules in
    let behind : c.split_at.result.1.now ≡ drop (byte_len w16) c.args.bytes.now = search rules in
    number_found w16 c.args.bytes.now c.split_at.result.1.now c.from_be_bytes.result (λ i. omega (arith, c.type_inv.bytes i)) (omega arith) is behind
