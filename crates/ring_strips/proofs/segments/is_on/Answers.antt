use Rattle.std.proofs.lemmas.Bool.Decides.{same_from_decides}
use Rattle.plane_bounds.specs.Inside.{is_on}
use Rattle.plane_bounds.proofs.Inside.{Decides-on}
use Rattle.ring_strips.proofs.segments.is_on.Goals as goal

pub returns : goal.returns
returns c =
    same_from_decides c.on_segment.result (is_on c.args.p c.args.segment) c.on_segment.ensures (Decides-on c.args.p c.args.segment)
