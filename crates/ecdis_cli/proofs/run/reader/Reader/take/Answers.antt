-- A byte of a line is kept, or changes nothing.
use Rattle.std.proofs.Common.{ℕ, ◌≡◌, ◌∷◌, [], ◌++◌, length, cond, ltb, eqb, false, sym, subst, rules}
use Rattle.std.proofs.lemmas.Bool.{eqb-true}
use Rattle.chart_ports.specs.Moments.{LeavesOnly}
use Rattle.session_core.specs.declared.session.Session.{Session}
use Rattle.ecdis_cli.specs.Devices.{panels_in}
use Rattle.ecdis_cli.specs.Limits.{KEPT_LIMIT}
use Rattle.ecdis_cli.specs.Progress.{BytesAreTaken}
use Rattle.ecdis_cli.specs.ReaderStanding.{reader_standing}
use Rattle.ecdis_cli.specs.Standing.{Stands, standing_of}
use Rattle.ecdis_cli.proofs.ScriptSteps.{Advanced-byte, Stopped-start, OnErr-from, OnOk-map}
use Rattle.ecdis_cli.proofs.Taking.{Where, quiet}
use Rattle.ecdis_cli.proofs.run.reader.Reader.take.Goals as goal

pub returns-else-byte-eq10-clause-ok : goal.returns-else-byte-eq10-clause-ok
returns-else-byte-eq10-clause-ok g c = λ d.
    let desk = c.args.devices.now.desk.now in
    let said = g.D.Desk.said desk in
    let faults = g.L.Shelf.faults c.args.devices.now.shelf.now in
    let files = g.L.Shelf.files c.args.devices.now.shelf.now in
    let held = Stands g.D.Desk.contents c.args.devices.now c.args.self.now.session in
    let leaves = Where held (LeavesOnly g.D.Desk.clock g.D.Desk.might desk desk) in
    let count = c.args.devices.now.steps.now in
    let panels = panels_in (λ panel. goal.Panel-dyn g (panel.vtable, panel.value)) c.args.devices.now in
    let before = reader_standing c.args.self.now said faults count panels in
    let crash = quiet g.D.Desk.clock g.D.Desk.might held desk (g.D.Desk.may_leave desk) said before.model.state
    (λ images so_far left. g.met.D.Desk.only_now desk images so_far d left)
    (λ stood images left. c.kept_stores_are_read.ensures.stands desk _ images (c.requires.ready.store.kept d) stood left) in
    OnOk-map c.keep.result _ _
    (λ (kept : c.keep.new.self.line.items ≡ cond (ltb (length c.args.self.now.line.items) KEPT_LIMIT) (c.args.self.now.line.items ++ c.args.byte ∷ []) c.args.self.now.line.items).
    subst (λ (n : ℕ). BytesAreTaken g.L.Shelf.tells files leaves before (c.args.byte ∷ [])
    (standing_of c.keep.new.self.session said faults count panels n c.keep.new.self.line.items))
    (sym c.keep.ensures.number)
    (subst (λ (s : Session). BytesAreTaken g.L.Shelf.tells files leaves before (c.args.byte ∷ [])
    (standing_of s said faults count panels c.args.self.now.number c.keep.new.self.line.items))
    (sym c.keep.ensures.session)
    (Advanced-byte c.long_lines_are_read_by_their_front.ensures.front _ _ leaves before _ _ crash c.args.self.now.unbroken (let ne : eqb c.args.byte 10 ≡ false = search (rules, c.if-byte-eq10.false) in ne) kept)))
    c.keep.ensures.ok

pub returns-else-byte-eq10-clause-err : goal.returns-else-byte-eq10-clause-err
returns-else-byte-eq10-clause-err g c = λ d.
    let desk = c.args.devices.now.desk.now in
    let said = g.D.Desk.said desk in
    let faults = g.L.Shelf.faults c.args.devices.now.shelf.now in
    let count = c.args.devices.now.steps.now in
    let panels = panels_in (λ panel. goal.Panel-dyn g (panel.vtable, panel.value)) c.args.devices.now in
    let before = reader_standing c.args.self.now said faults count panels in
    let held = Stands g.D.Desk.contents c.args.devices.now c.args.self.now.session in
    let crash = quiet g.D.Desk.clock g.D.Desk.might held desk (g.D.Desk.may_leave desk) said before.model.state
    (λ images so_far left. g.met.D.Desk.only_now desk images so_far d left)
    (λ stood images left. c.kept_stores_are_read.ensures.stands desk _ images (c.requires.ready.store.kept d) stood left) in
    OnErr-from c.keep.result _ (Stopped-start _ _ (Where held (LeavesOnly g.D.Desk.clock g.D.Desk.might desk desk)) before _ _ _ _ crash)

pub returns-then-byte-eq10-clause-ok : goal.returns-then-byte-eq10-clause-ok
returns-then-byte-eq10-clause-ok g c = λ d.
    let is : c.args.byte ≡ 10 = eqb-true c.args.byte 10 (search (rules, c.if-byte-eq10.true)) in
    rw is (c.end_line.ensures.ok d)

pub returns-then-byte-eq10-clause-err : goal.returns-then-byte-eq10-clause-err
returns-then-byte-eq10-clause-err g c = λ d.
    let is : c.args.byte ≡ 10 = eqb-true c.args.byte 10 (search (rules, c.if-byte-eq10.true)) in
    rw is (c.end_line.ensures.err d)

pub returns-else-byte-eq10-clause-stood : goal.returns-else-byte-eq10-clause-stood
returns-else-byte-eq10-clause-stood g c = λ d stood.
    OnOk-map c.keep.result _ _
    (λ kept. subst (λ (s : Session). Stands g.D.Desk.contents c.args.devices.now s) (sym c.keep.ensures.session) stood)
    c.keep.ensures.ok
