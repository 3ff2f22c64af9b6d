-- The line is silent, takes its turn, or is refused.
use Rattle.std.proofs.Common.{◌∙◌, Some, None, ap, refl, sym}
use Rattle.std.specs.Prelude.{IsTrue, Ok}
use Rattle.session_core.specs.Session.{model_of}
use Rattle.ecdis_cli.specs.Devices.{panels_in}
use Rattle.ecdis_cli.specs.Panels.{values_of}
use Rattle.ecdis_cli.specs.Replied.{GivesStep}
use Rattle.ecdis_cli.specs.Step.{Step}
use Rattle.ecdis_cli.proofs.Answering.{Replied-quiet, Replied-turn, gives-stopped, keep-same}
use Rattle.ecdis_cli.proofs.Lines.{step-asked}
use Rattle.ecdis_cli.proofs.Panels.{follow-boxes, follow-quiet, keep-boxes}
use Rattle.ecdis_cli.proofs.Taking.{unfailing}
use Rattle.ecdis_cli.proofs.run.answer.reply_to.Goals as goal

pub returns-in_err-turn-in-Ok-Some-clause-replied : goal.returns-in_err-turn-in-Ok-Some-clause-replied
returns-in_err-turn-in-Ok-Some-clause-replied g c =
    let old = panels_in (λ panel. goal.Panel-dyn g (panel.vtable, panel.value)) c.args.devices.now in
    let new = values_of (λ panel. goal.Panel-dyn g (panel.vtable, panel.value)) c.turn.new.panels.items in
    Replied-turn _ _ _ _ _ _ c.in-Ok-Some.event c.turn.result (model_of c.turn.new.self)
    (GivesStep c.from_residual.result (model_of c.args.session.now) old (model_of c.turn.new.self) new)
    (λ panel. goal.Panel-dyn g (panel.vtable, panel.value)) c.args.devices.now.panels.now.items c.turn.new.panels.items
    (λ outside. step-asked c.long_lines_are_read_by_their_front.ensures.front outside _ _ _ _ (Ok (Some c.in-Ok-Some.event)) c.front_of.ensures (ap Ok (sym c.in-Ok-Some.field-0-is) ∙ c.in-Ok-Some.ensures.function))
    (λ most outside others h. gives-stopped c.from_residual.result (model_of c.args.session.now) old (model_of c.turn.new.self) new _
    c.from_residual.ensures.0
    (keep-boxes (λ panel. goal.Panel-dyn g (panel.vtable, panel.value)) c.in_err-turn-in-Ok-Some.field-0.0 c.in-Ok-Some.event c.args.devices.now.panels.now.items c.turn.new.panels.items
    _ _ c.in_err-turn-in-Ok-Some.ensures.panels))
    c.turn.ensures.turned

pub returns-in_ok-turn-in-Ok-Some-clause-replied : goal.returns-in_ok-turn-in-Ok-Some-clause-replied
returns-in_ok-turn-in-Ok-Some-clause-replied g c =
    let old = panels_in (λ panel. goal.Panel-dyn g (panel.vtable, panel.value)) c.args.devices.now in
    let new = values_of (λ panel. goal.Panel-dyn g (panel.vtable, panel.value)) c.turn.new.panels.items in
    let reply = c.in_ok-turn-in-Ok-Some.field-0 in
    Replied-turn _ _ _ _ _ _ c.in-Ok-Some.event (Ok reply) (model_of c.turn.new.self)
    (GivesStep (Ok (Some reply)) (model_of c.args.session.now) old (model_of c.turn.new.self) new)
    (λ panel. goal.Panel-dyn g (panel.vtable, panel.value)) c.args.devices.now.panels.now.items c.turn.new.panels.items
    (λ outside. step-asked c.long_lines_are_read_by_their_front.ensures.front outside _ _ _ _ (Ok (Some c.in-Ok-Some.event)) c.front_of.ensures (ap Ok (sym c.in-Ok-Some.field-0-is) ∙ c.in-Ok-Some.ensures.function))
    (λ most outside others h. (
      ap Some h.0,
      h.1,
      follow-boxes (λ panel. goal.Panel-dyn g (panel.vtable, panel.value)) c.turns_follow_their_commands.ensures.told outside c.in-Ok-Some.event most reply
          c.args.devices.now.panels.now.items c.turn.new.panels.items (model_of c.args.session.now)
          (model_of c.turn.new.self) h.0 h.1 others c.in_ok-turn-in-Ok-Some.ensures.panels,
    ))
    c.in_ok-turn-in-Ok-Some.ensures.turned

pub returns-in-Ok-None-clause-replied : goal.returns-in-Ok-None-clause-replied
returns-in-Ok-None-clause-replied g c =
    let model = model_of c.args.session.now in
    let is = step-asked c.long_lines_are_read_by_their_front.ensures.front (unfailing (g.L.Shelf.files c.args.devices.now.shelf.now)) model c.args.number c.args.line.now _ (Ok None) c.front_of.ensures (ap Ok (sym c.in-Ok-None.field-0-is) ∙ c.in-Ok-None.ensures.function) in
    Replied-quiet g.D.Desk.clock g.D.Desk.might (IsTrue g.D.Desk.tells) _ _ _ c.args.devices.now.desk.now (g.D.Desk.may_leave c.args.devices.now.desk.now) _ _
    (λ t images so_far left. g.met.D.Desk.only_now c.args.devices.now.desk.now images so_far t left)
    (λ t stood images left. c.kept_stores_are_read.ensures.stands c.args.devices.now.desk.now _ images (c.requires.ready.store.kept t) stood left) (
      ap (λ (s : Step). s.reply) is,
      ap (λ (s : Step). s.model) is,
      follow-quiet model (panels_in (λ panel. goal.Panel-dyn g (panel.vtable, panel.value)) c.args.devices.now) _ _ is (λ starts. tt) (λ starts. refl) refl,
    )

pub returns-in_ok-reply-in-Err-BadLine-clause-replied : goal.returns-in_ok-reply-in-Err-BadLine-clause-replied
returns-in_ok-reply-in-Err-BadLine-clause-replied g c =
    let model = model_of c.args.session.now in
    let bad = rw c.in-Err-BadLine.field-0-is at c.in-Err-BadLine.ensures.function in
    let is = step-asked c.long_lines_are_read_by_their_front.ensures.front (unfailing (g.L.Shelf.files c.args.devices.now.shelf.now)) model c.args.number c.args.line.now _ _ c.front_of.ensures bad in
    Replied-quiet g.D.Desk.clock g.D.Desk.might (IsTrue g.D.Desk.tells) _ _ _ c.args.devices.now.desk.now (g.D.Desk.may_leave c.args.devices.now.desk.now) _ _
    (λ t images so_far left. g.met.D.Desk.only_now c.args.devices.now.desk.now images so_far t left)
    (λ t stood images left. c.kept_stores_are_read.ensures.stands c.args.devices.now.desk.now _ images (c.requires.ready.store.kept t) stood left) (
      ap (λ (s : Step). s.reply) is ∙ ap Some (sym c.in_ok-reply-in-Err-BadLine.ensures),
      ap (λ (s : Step). s.model) is,
      follow-quiet model (panels_in (λ panel. goal.Panel-dyn g (panel.vtable, panel.value)) c.args.devices.now) _ _ is (λ starts. tt) (λ starts. refl) refl,
    )

pub returns-in_err-reply-in-Err-BadLine-clause-replied : goal.returns-in_err-reply-in-Err-BadLine-clause-replied
returns-in_err-reply-in-Err-BadLine-clause-replied g c =
    let model = model_of c.args.session.now in
    let panels = panels_in (λ panel. goal.Panel-dyn g (panel.vtable, panel.value)) c.args.devices.now in
    Replied-quiet g.D.Desk.clock g.D.Desk.might (IsTrue g.D.Desk.tells) _ _ _ c.args.devices.now.desk.now (g.D.Desk.may_leave c.args.devices.now.desk.now) _ _
    (λ t images so_far left. g.met.D.Desk.only_now c.args.devices.now.desk.now images so_far t left)
    (λ t stood images left. c.kept_stores_are_read.ensures.stands c.args.devices.now.desk.now _ images (c.requires.ready.store.kept t) stood left)
    (gives-stopped c.from_residual-in_err-reply-in-Err-BadLine.result model panels model panels _
    c.from_residual-in_err-reply-in-Err-BadLine.ensures.0 (keep-same model.scenes panels))

pub returns-in-Err-NoMemory-clause-replied : goal.returns-in-Err-NoMemory-clause-replied
returns-in-Err-NoMemory-clause-replied g c =
    Replied-quiet g.D.Desk.clock g.D.Desk.might (IsTrue g.D.Desk.tells) _ _ _ c.args.devices.now.desk.now (g.D.Desk.may_leave c.args.devices.now.desk.now) _ _
    (λ t images so_far left. g.met.D.Desk.only_now c.args.devices.now.desk.now images so_far t left)
    (λ t stood images left. c.kept_stores_are_read.ensures.stands c.args.devices.now.desk.now _ images (c.requires.ready.store.kept t) stood left)
    (keep-same (model_of c.args.session.now).scenes (panels_in (λ panel. goal.Panel-dyn g (panel.vtable, panel.value)) c.args.devices.now))

-- the numbers of a line are in their ranges
pub turn-requires-clause-ranges : goal.turn-requires-clause-ranges
turn-requires-clause-ranges g c = c.in-Ok-Some.ensures.ranges c.in-Ok-Some.event (ap Ok c.in-Ok-Some.field-0-is)

pub returns-in_ok-turn-in-Ok-Some-clause-stood : goal.returns-in_ok-turn-in-Ok-Some-clause-stood
returns-in_ok-turn-in-Ok-Some-clause-stood g c = λ t stood. c.in_ok-turn-in-Ok-Some.ensures.stood t stood (λ e. cc)

pub returns-in-Ok-None-clause-stood : goal.returns-in-Ok-None-clause-stood
returns-in-Ok-None-clause-stood g c = λ t stood. stood

pub returns-in_ok-reply-in-Err-BadLine-clause-stood : goal.returns-in_ok-reply-in-Err-BadLine-clause-stood
returns-in_ok-reply-in-Err-BadLine-clause-stood g c = λ t stood. stood
