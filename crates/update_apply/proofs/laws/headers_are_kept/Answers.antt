use Rattle.update_apply.proofs.Headers.{headers-held}
use Rattle.update_apply.proofs.laws.headers_are_kept.Goals as goal

pub returns : goal.returns
returns c = headers-held
