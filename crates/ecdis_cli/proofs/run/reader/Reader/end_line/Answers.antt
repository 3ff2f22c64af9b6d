-- The line ends, and the next has not begun.
use Rattle.std.proofs.Common.{List, ℕ, ◌+◌, ◌∷◌, [], sym, ap, ◌∙◌, subst}
use Rattle.std.specs.Str.Lines.{strip_carriage_return}
use Rattle.ecdis_cli.specs.Devices.{LeavesWhere}
use Rattle.ecdis_cli.specs.Progress.{BytesAreTaken}
use Rattle.ecdis_cli.specs.ReaderStanding.{reader_at}
use Rattle.ecdis_cli.specs.Standing.{Stands, standing_at}
use Rattle.ecdis_cli.proofs.ScriptSteps.{Advanced-feed, Stopped-feed, OnErr-from}
use Rattle.ecdis_cli.proofs.run.reader.Reader.end_line.Goals as goal

pub returns-in_err-answer-clause-err : goal.returns-in_err-answer-clause-err
returns-in_err-answer-clause-err g c = λ d.
    OnErr-from _ _ (Stopped-feed _ _ _ (reader_at g.L.Shelf.faults g.D.Desk.said (λ panel. goal.Panel-dyn g (panel.vtable, panel.value)) c.args.self.now c.args.devices.now) _
    _ _ _ c.args.self.now.unbroken
    (c.without_carriage_return-line.ensures ∙ ap strip_carriage_return c.deref.ensures.value) (c.in_err-answer.ensures.front d))

pub returns-clause-ok : goal.returns-clause-ok
returns-clause-ok g c = λ d.
    let before = reader_at g.L.Shelf.faults g.D.Desk.said (λ panel. goal.Panel-dyn g (panel.vtable, panel.value)) c.args.self.now c.args.devices.now in
    let leaves = LeavesWhere (Stands g.D.Desk.contents c.args.devices.now c.args.self.now.session)
    g.D.Desk.clock g.D.Desk.might c.args.devices.now c.answer.new.devices in
    subst (λ (line : List ℕ). BytesAreTaken g.L.Shelf.tells (g.L.Shelf.files c.args.devices.now.shelf.now) leaves before (10 ∷ [])
    (standing_at g.L.Shelf.faults g.D.Desk.said (λ panel. goal.Panel-dyn g (panel.vtable, panel.value)) c.answer.new.session c.answer.new.devices (c.args.self.now.number + 1) line))
    (sym c.clear.ensures.items)
    (Advanced-feed _ _ leaves before _ _ c.args.self.now.unbroken (c.without_carriage_return-line.ensures ∙ ap strip_carriage_return c.deref.ensures.value) (c.in_ok-answer.ensures.said d))
