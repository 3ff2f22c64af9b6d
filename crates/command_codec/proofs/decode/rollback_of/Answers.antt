use Rattle.std.proofs.Common.{arith}
use Rattle.command_codec.proofs.CommandRead.{rollback_read, rollback_missed, rollback_short}
use Rattle.command_codec.proofs.decode.rollback_of.Goals as goal

pub returns-in_default : goal.returns-in_default
returns-in_default c = rollback_short c.keys_are_tested.ensures c.args.rest.now c.in_default.len_below

pub returns-in_err-key : goal.returns-in_err-key
returns-in_err-key c = rw c.from_residual.ensures (rollback_missed c.keys_are_tested.ensures c.args.rest.now c.in_err-key.ensures)

pub returns : goal.returns
returns c =
    let key = c.in_ok-key.ensures in
    rollback_read c.keys_are_tested.ensures c.args.rest.now c.in_ok-key.key c.from_be_bytes.result (omega arith) (λ i. let fits = c.type_inv.rest i in omega arith) key.0 key.1 c.from_be_bytes.ensures
