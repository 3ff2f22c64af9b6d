-- The line was answered, or a front of its reply was said.
use Rattle.std.proofs.Common.{◌∙◌, refl}
use Rattle.std.specs.Prelude.{IsTrue}
use Rattle.session_core.specs.Session.{store_of}
use Rattle.ecdis_cli.proofs.Answering.{Replied-told, same-stands, answered-said, answered-silent, interrupted-before, interrupted-said}
use Rattle.ecdis_cli.proofs.ScriptSteps.{OnErr-from, OnErr-map, OnOk-from, OnOk-map}
use Rattle.ecdis_cli.proofs.run.answer.answer.Goals as goal

pub returns-in_err-reply-clause-front : goal.returns-in_err-reply-clause-front
returns-in_err-reply-clause-front g c = λ d.
    let law = c.turns_follow_their_commands.ensures in
    OnErr-from _ _ (interrupted-before g.D.Desk.clock g.D.Desk.might _ law.none law.some c.replies_are_spoken.ensures law.failed
    _ _ _ _ _ c.reply_to.ensures.keeps.shelf.later _ _ _ _ refl refl (c.reply_to.ensures.said d) (λ step h. h)
    (Replied-told g.D.Desk.clock g.D.Desk.might (IsTrue g.D.Desk.tells) _ d _ _ _ _ _ _ _ _ c.in_err-reply.ensures.replied))

pub returns-in_default-clause-said : goal.returns-in_default-clause-said
returns-in_default-clause-said g c = λ d.
    let law = c.turns_follow_their_commands.ensures in
    answered-silent g.D.Desk.clock g.D.Desk.might _ law.none law.some c.replies_are_spoken.ensures law.failed
    _ _ _ _ _ c.reply_to.ensures.keeps.shelf.later _ _ _ _ refl refl (c.reply_to.ensures.said d)
    (λ step h. (h.0 ∙ c.in_default.is, h.1, h.2))
    (Replied-told g.D.Desk.clock g.D.Desk.might (IsTrue g.D.Desk.tells) _ d _ _ _ _ _ _ _ _ c.in_ok-reply.ensures.replied)

pub returns-clause-said : goal.returns-clause-said
returns-clause-said g c = λ d.
    let law = c.turns_follow_their_commands.ensures in
    OnOk-map c.say.result _ _
    (λ said. answered-said g.D.Desk.clock g.D.Desk.might _ law.none law.some c.replies_are_spoken.ensures law.failed
    _ _ _ _ _ c.reply_to.ensures.keeps.shelf.later _ _ _ _ _ _ _ _ refl refl (c.reply_to.ensures.said d) said
    (λ step h. (h.0 ∙ c.in-Some.is, h.1, h.2))
    (λ stood images left. c.kept_stores_are_read.ensures.stands c.reply_to.new.devices.desk.now _ images (c.in_ok-reply.ensures.ready.store.kept d)
    (c.in_ok-reply.ensures.stood d stood) left)
    (Replied-told g.D.Desk.clock g.D.Desk.might (IsTrue g.D.Desk.tells) _ d _ _ _ _ _ _ _ _ c.in_ok-reply.ensures.replied)
    (c.say.ensures.moments d))
    (c.say.ensures.said d)

pub returns-clause-front : goal.returns-clause-front
returns-clause-front g c = λ d.
    let law = c.turns_follow_their_commands.ensures in
    OnErr-map c.say.result _ _
    (λ front. interrupted-said g.D.Desk.clock g.D.Desk.might _ law.none law.some c.replies_are_spoken.ensures law.failed
    _ _ _ _ _ c.reply_to.ensures.keeps.shelf.later _ _ _ _ _ _ _ _ refl refl (c.reply_to.ensures.said d) front
    (λ step h. (h.0 ∙ c.in-Some.is, h.1, h.2))
    (λ stood images left. c.kept_stores_are_read.ensures.stands c.reply_to.new.devices.desk.now _ images (c.in_ok-reply.ensures.ready.store.kept d)
    (c.in_ok-reply.ensures.stood d stood) left)
    (Replied-told g.D.Desk.clock g.D.Desk.might (IsTrue g.D.Desk.tells) _ d _ _ _ _ _ _ _ _ c.in_ok-reply.ensures.replied)
    (c.say.ensures.moments d))
    (c.say.ensures.front d)

pub returns-clause-ready : goal.returns-clause-ready
returns-clause-ready g c =
    let mid = c.reply_to.new.devices.desk.now in
    let ready = c.in_ok-reply.ensures.ready in
    OnOk-from c.say.result _ (record {
      store = record {
        sound = ready.store.sound;
        kept = λ d. c.kept_stores_are_read.ensures.stays mid c.say.new.desk (store_of c.reply_to.new.session) (ready.store.kept d) (c.say.ensures.files d) (c.say.ensures.crash d);
        charts = ready.store.charts;
        staged = ready.store.staged;
      };
      panels = ready.panels;
      counted = ready.counted;
    })

pub returns-in_default-clause-stood : goal.returns-in_default-clause-stood
returns-in_default-clause-stood g c = λ d stood. c.in_ok-reply.ensures.stood d stood

pub returns-clause-stood : goal.returns-clause-stood
returns-clause-stood g c = λ d stood.
    OnOk-from c.say.result _ (same-stands _ _ _ (c.say.ensures.files d) (c.in_ok-reply.ensures.stood d stood))
