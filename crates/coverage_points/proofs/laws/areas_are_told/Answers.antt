use Rattle.common_lemmas.proofs.Members.{has_out, has_in}
use Rattle.coverage_points.proofs.Charted.{charted_out, charted_in}
use Rattle.coverage_points.proofs.laws.areas_are_told.Goals as goal

pub returns : goal.returns
returns c = λ state rings. (λ h. charted_out state rings (has_out _ rings h), λ q. has_in _ rings (charted_in state rings q))
