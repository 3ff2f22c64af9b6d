-- The run goes on by the bytes that were pulled.
use Rattle.std.proofs.Common.{◌≡◌, ◌≤◌, ℕ, [], length-take-le, arith, sym, ap, subst, ◌∙◌, inl}
use Rattle.std.specs.Prelude.{Ok, Err}
use Rattle.chart_ports.specs.Moments.{LeavesOnly, MayBeLeft}
use Rattle.session_core.specs.Session.{model_of}
use Rattle.session_core.specs.declared.session.Session.{Session}
use Rattle.ecdis_cli.specs.Devices.{panels_in}
use Rattle.ecdis_cli.specs.ReaderStanding.{reader_at}
use Rattle.ecdis_cli.specs.Standing.{IsReadyFor, Standing, Stands, at_start}
use Rattle.ecdis_cli.proofs.Devices.{keeps-none, keeps-then}
use Rattle.ecdis_cli.proofs.Panels.{known-begun}
use Rattle.ecdis_cli.proofs.ScriptSteps.{Advanced-start}
use Rattle.ecdis_cli.proofs.Stops.{desk-failed, not-done, not-early, not-foreign, not-script-fault, not-script-long, rose-since}
use Rattle.ecdis_cli.proofs.Taking.{Where, quiet, rose-fewer}
use Rattle.ecdis_cli.proofs.Runs.{Underway-start, Underway-next, Underway-fault, Underway-long, Underway-halted, Underway-done, Underway-cut, pull-part, pull-whole, length-pull, given-more, read-within}
use Rattle.ecdis_cli.proofs.run.rounds.run_script.Goals as goal

pub pulls-init : goal.pulls-init
pulls-init g c = record {
  underway = λ s d.
      let desk = c.args.devices.now.desk.now in
      let before = at_start (model_of c.args.session) (g.D.Desk.said desk)
      (g.L.Shelf.faults c.args.devices.now.shelf.now) c.args.devices.now.steps.now
      (panels_in (λ panel. goal.Panel-dyn g (panel.vtable, panel.value)) c.args.devices.now) in
      let held = Stands g.D.Desk.contents c.args.devices.now c.args.session in
      Underway-start g.D.Desk.clock g.D.Desk.might held _ _ _ _ desk desk _ (c.new-reader.ensures.start _ _ _ _)
      (Advanced-start _ _ (Where held (LeavesOnly g.D.Desk.clock g.D.Desk.might desk desk)) before
      (quiet g.D.Desk.clock g.D.Desk.might held desk (g.D.Desk.may_leave desk) (g.D.Desk.said desk) before.model.state
      (λ images so_far left. g.met.D.Desk.only_now desk images so_far d left)
      (λ stood images left. c.kept_stores_are_read.ensures.stands desk _ images (c.requires.ready.store.kept d) stood left)));
  stood = λ d stood. subst (λ (session : Session). Stands g.D.Desk.contents c.args.devices.now session) (sym c.new-reader.ensures.session) stood;
  ready =
      subst (λ (n : ℕ). IsReadyFor g.D.Desk.tells g.D.Desk.contents g.D.Desk.may_leave c.args.devices.now n c.new-reader.result.session)
      (sym (ap (λ (at : Standing). at.number) (c.new-reader.ensures.start [] 0 0 [])))
      (subst (λ (session : Session). IsReadyFor g.D.Desk.tells g.D.Desk.contents g.D.Desk.may_leave c.args.devices.now 1 session)
      (sym c.new-reader.ensures.session) c.requires.ready);
  counted = λ s. omega arith;
  number = omega (arith, ap (λ (at : Standing). at.number) (c.new-reader.ensures.start [] 0 0 []));
  within = omega arith;
  given = inl (omega arith);
  script_later = omega arith;
  keeps = keeps-none _ _ _ _ _;
}

pub returns-in-Err-clause-ran : goal.returns-in-Err-clause-ran
returns-in-Err-clause-ran g c = λ s d.
    Underway-fault g.D.Desk.clock g.D.Desk.might _ c.turns_follow_their_commands.ensures.failed _ _ _ _
    (MayBeLeft (g.D.Desk.may_leave c.pulls.devices.desk.now)) (known-begun (λ panel. goal.Panel-dyn g (panel.vtable, panel.value)) c.args.devices.now.panels.now _ c.requires.fresh) _ _
    (reader_at g.L.Shelf.faults g.D.Desk.said (λ panel. goal.Panel-dyn g (panel.vtable, panel.value)) c.pulls.reader c.pulls.devices) _ _
    (c.in-Err.ensures.err s) (c.pulls.invariant.underway s d)

pub returns-in-Err-finish-clause-ran : goal.returns-in-Err-finish-clause-ran
returns-in-Err-finish-clause-ran g c = λ s d.
    Underway-cut g.D.Desk.clock g.D.Desk.might _ c.turns_follow_their_commands.ensures.failed _ _ _ _
    (MayBeLeft (g.D.Desk.may_leave c.finish.new.devices.desk.now)) (known-begun (λ panel. goal.Panel-dyn g (panel.vtable, panel.value)) c.args.devices.now.panels.now _ c.requires.fresh) _ (c.pulls.invariant.stood d) _ _ _ _
    (reader_at g.L.Shelf.faults g.D.Desk.said (λ panel. goal.Panel-dyn g (panel.vtable, panel.value)) c.pulls.reader c.pulls.devices) _ _
    (reader_at g.L.Shelf.faults g.D.Desk.said (λ panel. goal.Panel-dyn g (panel.vtable, panel.value)) c.finish.new.self c.finish.new.devices) _ _ c.after.ensures c.pulls.invariant.keeps.shelf.files_stay
    (c.in-Ok.ensures.end s (omega arith) (let none : c.in-Ok.count ≡ 0 = omega arith in ap Ok none))
    (c.pulls.invariant.underway s d) (c.in-Err-finish.ensures.err d)

pub returns-then-count-eq0-clause-ran : goal.returns-then-count-eq0-clause-ran
returns-then-count-eq0-clause-ran g c = λ s d.
    Underway-done g.D.Desk.clock g.D.Desk.might _ c.turns_follow_their_commands.ensures.failed _ _ _ _
    (MayBeLeft (g.D.Desk.may_leave c.finish.new.devices.desk.now)) (known-begun (λ panel. goal.Panel-dyn g (panel.vtable, panel.value)) c.args.devices.now.panels.now _ c.requires.fresh) _ (c.pulls.invariant.stood d) _ _ _ _
    (reader_at g.L.Shelf.faults g.D.Desk.said (λ panel. goal.Panel-dyn g (panel.vtable, panel.value)) c.pulls.reader c.pulls.devices) _ _
    (reader_at g.L.Shelf.faults g.D.Desk.said (λ panel. goal.Panel-dyn g (panel.vtable, panel.value)) c.finish.new.self c.finish.new.devices) c.pulls.invariant.keeps.shelf.files_stay
    (c.in-Ok.ensures.end s (omega arith) (let none : c.in-Ok.count ≡ 0 = omega arith in ap Ok none))
    (c.pulls.invariant.underway s d) (c.in_default.ensures.ok d)
    (λ images left. c.kept_stores_are_read.ensures.read c.finish.new.devices.desk.now _ images (c.in_default.ensures.ready.store.kept d) left)
    (λ stood images left. c.kept_stores_are_read.ensures.stands c.finish.new.devices.desk.now _ images (c.in_default.ensures.ready.store.kept d)
    (c.in_default.ensures.stood d (c.pulls.invariant.stood d stood)) left)

pub returns-then-count-eq0-clause-short : goal.returns-then-count-eq0-clause-short
returns-then-count-eq0-clause-short g c = λ s done.
    read-within _ _ c.pulls.room (c.pulls.invariant.counted s) (c.in-Ok.ensures.end s (omega arith) (let none : c.in-Ok.count ≡ 0 = omega arith in ap Ok none))

pub returns-in-Err-take_all-clause-ran : goal.returns-in-Err-take_all-clause-ran
returns-in-Err-take_all-clause-ran g c = λ s d.
    Underway-halted g.D.Desk.clock g.D.Desk.might _ c.turns_follow_their_commands.ensures.failed _ _ _ _
    (MayBeLeft (g.D.Desk.may_leave c.take_all.new.devices.desk.now)) (known-begun (λ panel. goal.Panel-dyn g (panel.vtable, panel.value)) c.args.devices.now.panels.now _ c.requires.fresh) _ (c.pulls.invariant.stood d) _ _ _ _
    (reader_at g.L.Shelf.faults g.D.Desk.said (λ panel. goal.Panel-dyn g (panel.vtable, panel.value)) c.pulls.reader c.pulls.devices) _ _ _ _
    (reader_at g.L.Shelf.faults g.D.Desk.said (λ panel. goal.Panel-dyn g (panel.vtable, panel.value)) c.take_all.new.self c.take_all.new.devices) _ _ c.after-in-Err-take_all.ensures c.pulls.invariant.keeps.shelf.files_stay
    (let part : c.min.result ≤ c.in-Ok.count = omega (arith, c.min.ensures) in pull-part c.min.result c.in-Ok.count c.pull.new.buf _ _ part (c.in-Ok.ensures.bytes s))
    (c.pulls.invariant.underway s d) (c.in-Err-take_all.ensures.err d)

pub returns-then-count-room-clause-ran : goal.returns-then-count-room-clause-ran
returns-then-count-room-clause-ran g c = λ s d.
    Underway-long g.D.Desk.clock g.D.Desk.might _ c.turns_follow_their_commands.ensures.failed _ _ _ _
    (MayBeLeft (g.D.Desk.may_leave c.take_all.new.devices.desk.now)) (known-begun (λ panel. goal.Panel-dyn g (panel.vtable, panel.value)) c.args.devices.now.panels.now _ c.requires.fresh) _ (c.pulls.invariant.stood d) _ _ _ _
    (reader_at g.L.Shelf.faults g.D.Desk.said (λ panel. goal.Panel-dyn g (panel.vtable, panel.value)) c.pulls.reader c.pulls.devices)
    (reader_at g.L.Shelf.faults g.D.Desk.said (λ panel. goal.Panel-dyn g (panel.vtable, panel.value)) c.take_all.new.self c.take_all.new.devices) _ _ _ _ c.pulls.room c.pulls.invariant.keeps.shelf.files_stay
    (let part : c.min.result ≤ c.in-Ok.count = omega (arith, c.min.ensures) in pull-part c.min.result c.in-Ok.count c.pull.new.buf _ _ part (c.in-Ok.ensures.bytes s))
    (length-take-le c.min.result c.pull.new.buf (omega (arith, c.in-Ok.ensures.within, c.min.ensures)) ∙ (let room : c.min.result ≡ c.pulls.room = omega (arith, c.min.ensures) in room))
    (c.pulls.invariant.counted s)
    (c.pulls.invariant.underway s d) (c.in_default-take_all.ensures.ok d)

pub returns-then-count-room-clause-script_over : goal.returns-then-count-room-clause-script_over
returns-then-count-room-clause-script_over g c = λ s e.
    omega (arith, length-pull c.in-Ok.count c.pull.new.buf _ _ (omega (arith, c.in-Ok.ensures.within)) (c.in-Ok.ensures.bytes s), c.pulls.invariant.counted s)

pub returns-in-Err-take_all-clause-done : goal.returns-in-Err-take_all-clause-done
returns-in-Err-take_all-clause-done g c = λ e. absurd (not-done c.in-Err-take_all.stop c.after-in-Err-take_all.result c.after-in-Err-take_all.ensures e)

pub returns-in-Err-take_all-clause-read : goal.returns-in-Err-take_all-clause-read
returns-in-Err-take_all-clause-read g c = λ s e. absurd (not-done c.in-Err-take_all.stop c.after-in-Err-take_all.result c.after-in-Err-take_all.ensures e)

pub returns-in-Err-take_all-clause-short : goal.returns-in-Err-take_all-clause-short
returns-in-Err-take_all-clause-short g c = λ s e. absurd (not-done c.in-Err-take_all.stop c.after-in-Err-take_all.result c.after-in-Err-take_all.ensures e)

pub returns-in-Err-take_all-clause-begun : goal.returns-in-Err-take_all-clause-begun
returns-in-Err-take_all-clause-begun g c = not-early c.in-Err-take_all.stop c.after-in-Err-take_all.result c.after-in-Err-take_all.ensures

pub returns-in-Err-take_all-clause-opened : goal.returns-in-Err-take_all-clause-opened
returns-in-Err-take_all-clause-opened g c = λ bank at e. not-foreign c.in-Err-take_all.stop c.after-in-Err-take_all.result bank at c.after-in-Err-take_all.ensures e

pub returns-in-Err-take_all-clause-script_failed : goal.returns-in-Err-take_all-clause-script_failed
returns-in-Err-take_all-clause-script_failed g c = λ e. absurd (not-script-fault c.in-Err-take_all.stop c.after-in-Err-take_all.result c.after-in-Err-take_all.ensures e)

pub returns-in-Err-take_all-clause-script_long : goal.returns-in-Err-take_all-clause-script_long
returns-in-Err-take_all-clause-script_long g c = λ e. absurd (not-script-long c.in-Err-take_all.stop c.after-in-Err-take_all.result c.after-in-Err-take_all.ensures e)

pub returns-in-Err-take_all-clause-script_over : goal.returns-in-Err-take_all-clause-script_over
returns-in-Err-take_all-clause-script_over g c = λ s e. absurd (not-script-long c.in-Err-take_all.stop c.after-in-Err-take_all.result c.after-in-Err-take_all.ensures e)

pub returns-in-Err-take_all-clause-desk_failed : goal.returns-in-Err-take_all-clause-desk_failed
returns-in-Err-take_all-clause-desk_failed g c = λ e.
    rose-since _ _ _ c.pulls.invariant.keeps.desk_later (c.take_all.ensures.desk_failed
    (c.in-Err-take_all.is ∙ ap Err (desk-failed c.in-Err-take_all.stop c.after-in-Err-take_all.result c.after-in-Err-take_all.ensures e)))

pub returns-then-count-room-clause-script_long : goal.returns-then-count-room-clause-script_long
returns-then-count-room-clause-script_long g c = λ e.
    rose-fewer _ _ _ _ (omega arith) (given-more _ c.in-Ok.count _ _ _ c.pulls.invariant.given c.in-Ok.ensures.given)

pub pulls-preserved : goal.pulls-preserved
pulls-preserved g c = record {
  underway = λ s d.
      Underway-next g.D.Desk.clock g.D.Desk.might _ _ _ _ _ _ (c.pulls.invariant.stood d) _ _ _ _
      (reader_at g.L.Shelf.faults g.D.Desk.said (λ panel. goal.Panel-dyn g (panel.vtable, panel.value)) c.pulls.reader c.pulls.devices) _ _ _ _ c.pulls.invariant.keeps.shelf.files_stay
      (let whole : c.min.result ≡ c.in-Ok.count = omega (arith, c.min.ensures) in pull-whole c.min.result c.in-Ok.count c.pull.new.buf _ _ whole (c.in-Ok.ensures.bytes s))
      (c.pulls.invariant.underway s d) (c.in_default-take_all.ensures.ok d);
  stood = λ d stood. c.in_default-take_all.ensures.stood d (c.pulls.invariant.stood d stood);
  ready = c.in_default-take_all.ensures.ready;
  counted = λ s. omega (arith, length-pull c.in-Ok.count c.pull.new.buf _ _ (omega (arith, c.in-Ok.ensures.within)) (c.in-Ok.ensures.bytes s), c.pulls.invariant.counted s);
  number = omega (
    arith,
    c.min.ensures,
    c.take_all.ensures.number,
    length-take-le c.min.result c.pull.new.buf (omega (arith, c.in-Ok.ensures.within, c.min.ensures)),
  );
  within = omega arith;
  given = rose-fewer _ _ _ _ (omega arith) (given-more _ c.in-Ok.count _ _ _ c.pulls.invariant.given c.in-Ok.ensures.given);
  script_later = omega (arith, c.in-Ok.ensures.cause.later);
  keeps = keeps-then _ _ _ _ _ _ _ c.pulls.invariant.keeps c.take_all.ensures.keeps;
}
