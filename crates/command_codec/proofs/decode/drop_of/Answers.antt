use Rattle.command_codec.proofs.CommandRead.{drop_read, drop_missed}
use Rattle.command_codec.proofs.decode.drop_of.Goals as goal

pub returns-in_err-key : goal.returns-in_err-key
returns-in_err-key c = rw c.from_residual.ensures (drop_missed c.keys_are_tested.ensures c.args.rest.now c.in_err-key.ensures)

pub returns : goal.returns
returns c = let key = c.in_ok-key.ensures in drop_read c.keys_are_tested.ensures c.args.rest.now c.in_ok-key.key key.0 key.1
