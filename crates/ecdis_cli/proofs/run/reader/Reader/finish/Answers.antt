-- The last line was answered, or there is none.
use Rattle.std.proofs.Common.{arith}
use Rattle.std.proofs.lemmas.List.{nil_from_length}
use Rattle.chart_ports.specs.Moments.{LeavesOnly}
use Rattle.ecdis_cli.specs.Devices.{LeavesWhere}
use Rattle.ecdis_cli.specs.ReaderStanding.{reader_at}
use Rattle.ecdis_cli.specs.Standing.{Stands}
use Rattle.ecdis_cli.proofs.ScriptSteps.{Finished-none, Finished-last, Unfinished-last, OnOk-map, OnErr-map, emptied, filled}
use Rattle.ecdis_cli.proofs.Taking.{Where, quiet}
use Rattle.ecdis_cli.proofs.run.reader.Reader.finish.Goals as goal

pub returns-then-is_empty-clause-ok : goal.returns-then-is_empty-clause-ok
returns-then-is_empty-clause-ok g c = λ d.
    let desk = c.args.devices.now.desk.now in
    let at = reader_at g.L.Shelf.faults g.D.Desk.said (λ panel. goal.Panel-dyn g (panel.vtable, panel.value)) c.args.self.now c.args.devices.now in
    let held = Stands g.D.Desk.contents c.args.devices.now c.args.self.now.session in
    Finished-none _ _ (Where held (LeavesOnly g.D.Desk.clock g.D.Desk.might desk desk)) at
    (quiet g.D.Desk.clock g.D.Desk.might held desk (g.D.Desk.may_leave desk) (g.D.Desk.said desk) at.model.state
    (λ images so_far left. g.met.D.Desk.only_now desk images so_far d left)
    (λ stood images left. c.kept_stores_are_read.ensures.stands desk _ images (c.requires.ready.store.kept d) stood left))
    (nil_from_length _ (omega (arith, emptied _ c.if-is_empty.ensures)))

pub returns-clause-ok : goal.returns-clause-ok
returns-clause-ok g c = λ d.
    let at = reader_at g.L.Shelf.faults g.D.Desk.said (λ panel. goal.Panel-dyn g (panel.vtable, panel.value)) c.args.self.now c.args.devices.now in
    OnOk-map c.answer.result _ _
    (Finished-last _ _ (LeavesWhere (Stands g.D.Desk.contents c.args.devices.now c.args.self.now.session) g.D.Desk.clock g.D.Desk.might
    c.args.devices.now c.answer.new.devices) at _ _ _ _ c.deref.ensures.value c.args.self.now.unbroken (omega (arith, filled _ c.if-is_empty.ensures)))
    (c.answer.ensures.said d)

pub returns-clause-err : goal.returns-clause-err
returns-clause-err g c = λ d.
    let at = reader_at g.L.Shelf.faults g.D.Desk.said (λ panel. goal.Panel-dyn g (panel.vtable, panel.value)) c.args.self.now c.args.devices.now in
    OnErr-map c.answer.result _ _
    (Unfinished-last _ _ (LeavesWhere (Stands g.D.Desk.contents c.args.devices.now c.args.self.now.session) g.D.Desk.clock g.D.Desk.might
    c.args.devices.now c.answer.new.devices) at _ _ _ _ c.deref.ensures.value c.args.self.now.unbroken (omega (arith, filled _ c.if-is_empty.ensures)))
    (c.answer.ensures.front d)
