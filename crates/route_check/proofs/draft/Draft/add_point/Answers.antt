use Rattle.std.proofs.Common.{◌∙◌, arith}
use Rattle.route_check.proofs.Drafts.{point_kept, point_passed, point_counted}
use Rattle.route_check.proofs.draft.Draft.add_point.Goals as goal
use Rattle.route_check.proofs.draft.Draft.add_point.Goals.{then-self-lt-MOST_POINTS+in_ok-push, else-self-lt-MOST_POINTS}

pub returns : goal.returns
returns c =
    let draft = c.args.self.now in
    elim c.if-self-lt-MOST_POINTS.branch [
      | then-self-lt-MOST_POINTS+in_ok-push w ↦
          point_counted draft c.if-self-lt-MOST_POINTS.self c.args.point w.push.new.self w.self-is
          (w.in_ok-push.ensures.ok ∙ point_kept draft.points c.args.point draft.count c.requires.kept (omega arith))
      | else-self-lt-MOST_POINTS w ↦
          point_counted draft c.if-self-lt-MOST_POINTS.self c.args.point draft.points w.self-is
          (point_passed draft.points c.args.point draft.count c.requires.kept (omega arith))
    ]
