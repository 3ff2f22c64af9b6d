-- What is said of a re-issue is said where no memory ran out.
use Rattle.session_core.proofs.session.Session.turn.Goals as goal

pub returns-in-Ok-clause-reissue : goal.returns-in-Ok-clause-reissue
returns-in-Ok-clause-reissue g c = c.in-Ok.ensures.reissue (λ e. cc)

pub returns-in_ok-reply-in-Err-Refused-clause-reissue : goal.returns-in_ok-reply-in-Err-Refused-clause-reissue
returns-in_ok-reply-in-Err-Refused-clause-reissue g c =
    c.in-Err-Refused.ensures.reissue (λ e. cc (c.in-Err-Refused.field-0-is))
