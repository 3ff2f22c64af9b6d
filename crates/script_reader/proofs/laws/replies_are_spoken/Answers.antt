use Rattle.script_reader.proofs.Replies.{reply-spoken}
use Rattle.script_reader.proofs.laws.replies_are_spoken.Goals as goal

pub returns : goal.returns
returns c = reply-spoken
