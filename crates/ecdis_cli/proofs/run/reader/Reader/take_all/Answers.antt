-- Nothing was taken yet; then one byte more.
use Rattle.std.proofs.Common.{ℕ, List, arith, subst}
use Rattle.std.proofs.lemmas.List.{take_all}
use Rattle.chart_ports.specs.Moments.{LeavesOnly}
use Rattle.ecdis_cli.specs.Progress.{BytesAreTaken}
use Rattle.ecdis_cli.specs.Devices.{LeavesWhere}
use Rattle.ecdis_cli.specs.ReaderStanding.{reader_at}
use Rattle.ecdis_cli.specs.Standing.{Stands}
use Rattle.ecdis_cli.proofs.Devices.{keeps-none, keeps-then}
use Rattle.ecdis_cli.proofs.ScriptSteps.{Advanced-start, Advanced-next, Stopped-next, OnErr-from}
use Rattle.ecdis_cli.proofs.Taking.{Where, quiet}
use Rattle.ecdis_cli.proofs.run.reader.Reader.take_all.Goals as goal

pub loop-byte-init : goal.loop-byte-init
loop-byte-init g c = record {
  number = omega arith;
  advanced = λ d.
      let desk = c.args.devices.now.desk.now in
      let before = reader_at g.L.Shelf.faults g.D.Desk.said (λ panel. goal.Panel-dyn g (panel.vtable, panel.value)) c.args.self.now c.args.devices.now in
      let held = Stands g.D.Desk.contents c.args.devices.now c.args.self.now.session in
      Advanced-start _ _ (Where held (LeavesOnly g.D.Desk.clock g.D.Desk.might desk desk)) before
      (quiet g.D.Desk.clock g.D.Desk.might held desk (g.D.Desk.may_leave desk) (g.D.Desk.said desk) before.model.state
      (λ images so_far left. g.met.D.Desk.only_now desk images so_far d left)
      (λ stood images left. c.kept_stores_are_read.ensures.stands desk _ images (c.requires.ready.store.kept d) stood left));
  stood = λ d stood. stood;
  ready = c.requires.ready;
  keeps = keeps-none _ _ _ _ _;
}

pub returns-in_err-take-clause-err : goal.returns-in_err-take-clause-err
returns-in_err-take-clause-err g c = λ d.
    OnErr-from _ _ (Stopped-next g.D.Desk.clock g.D.Desk.might _ _ (c.loop-byte.invariant.stood d) _ _ _ _ _ _ _
    (reader_at g.L.Shelf.faults g.D.Desk.said (λ panel. goal.Panel-dyn g (panel.vtable, panel.value)) c.loop-byte.self c.loop-byte.devices) _ c.loop-byte.byte-index
    (reader_at g.L.Shelf.faults g.D.Desk.said (λ panel. goal.Panel-dyn g (panel.vtable, panel.value)) c.take.new.self c.take.new.devices)
    c.loop-byte.invariant.keeps.shelf.files_stay (omega arith) (c.loop-byte.invariant.advanced d) (c.in_err-take.ensures.err d))

pub loop-byte-preserved : goal.loop-byte-preserved
loop-byte-preserved g c = record {
  number = omega arith;
  advanced = λ d. Advanced-next g.D.Desk.clock g.D.Desk.might _ _ (c.loop-byte.invariant.stood d) _ _ _ _ _ _ _
      (reader_at g.L.Shelf.faults g.D.Desk.said (λ panel. goal.Panel-dyn g (panel.vtable, panel.value)) c.loop-byte.self c.loop-byte.devices) _ _ c.loop-byte.byte-index
      c.loop-byte.invariant.keeps.shelf.files_stay (omega arith) (c.loop-byte.invariant.advanced d) (c.in_ok-take.ensures.ok d);
  stood = λ d stood. c.in_ok-take.ensures.stood d (c.loop-byte.invariant.stood d stood);
  ready = c.in_ok-take.ensures.ready;
  keeps = keeps-then _ _ _ _ _ _ _ c.loop-byte.invariant.keeps c.take.ensures.keeps;
}

pub returns-clause-ok : goal.returns-clause-ok
returns-clause-ok g c = λ d.
    subst (λ (bytes : List ℕ). BytesAreTaken g.L.Shelf.tells (g.L.Shelf.files c.args.devices.now.shelf.now)
    (LeavesWhere (Stands g.D.Desk.contents c.args.devices.now c.args.self.now.session) g.D.Desk.clock g.D.Desk.might
    c.args.devices.now c.loop-byte.devices)
    (reader_at g.L.Shelf.faults g.D.Desk.said (λ panel. goal.Panel-dyn g (panel.vtable, panel.value)) c.args.self.now c.args.devices.now) bytes
    (reader_at g.L.Shelf.faults g.D.Desk.said (λ panel. goal.Panel-dyn g (panel.vtable, panel.value)) c.loop-byte.self c.loop-byte.devices))
    (take_all c.loop-byte.byte-index c.args.bytes.now (omega arith)) (c.loop-byte.invariant.advanced d)
