-- What was taken of the script was answered, and there is room for less of it.
use Rattle.std.proofs.Common.{◌≡◌, ◌+◌, ◌-◌, ◌≤◌, length}
use Rattle.std.specs.Prelude.{IsTrue}
use Rattle.chart_ports.specs.Count.{RoseBy}
use Rattle.session_core.specs.Session.{model_of}
use Rattle.ecdis_cli.specs.Devices.{KeepsDevices, panels_in}
use Rattle.ecdis_cli.specs.Limits.{SCRIPT_LIMIT}
use Rattle.ecdis_cli.specs.Run.{outside_of}
use Rattle.ecdis_cli.specs.ReaderStanding.{reader_at}
use Rattle.ecdis_cli.specs.Standing.{IsReadyFor, Stands}
use Rattle.ecdis_cli.proofs.Runs.{Underway}
use Rattle.ecdis_cli.proofs.run.rounds.run_script.Given as goal

abbrev pub invariant-pulls : goal.invariant-pulls
invariant-pulls g l = record {
  underway : IsTrue g.S.Source.tells → IsTrue g.D.Desk.tells → Underway g.D.Desk.clock g.D.Desk.might
      (Stands g.D.Desk.contents l.initial.devices l.fn.session) g.L.Shelf.tells (g.L.Shelf.files l.initial.devices.shelf.now)
      (model_of l.fn.session) (outside_of (g.S.Source.left l.initial.script) (g.D.Desk.said l.initial.devices.desk.now)
      (g.L.Shelf.faults l.initial.devices.shelf.now)
      l.initial.devices.steps.now (panels_in (λ panel. goal.Panel-dyn g (panel.vtable, panel.value)) l.initial.devices))
      l.initial.devices.desk.now l.devices.desk.now (g.S.Source.left l.script) (reader_at g.L.Shelf.faults g.D.Desk.said (λ panel. goal.Panel-dyn g (panel.vtable, panel.value)) l.reader l.devices);
  stood : IsTrue g.D.Desk.tells → Stands g.D.Desk.contents l.initial.devices l.fn.session
      → Stands g.D.Desk.contents l.devices l.reader.session;
  ready : IsReadyFor g.D.Desk.tells g.D.Desk.contents g.D.Desk.may_leave l.devices l.reader.number l.reader.session;
  counted : IsTrue g.S.Source.tells → length (g.S.Source.left l.initial.script) + l.room ≡ SCRIPT_LIMIT + length (g.S.Source.left l.script);
  number : l.reader.number + l.room ≤ SCRIPT_LIMIT + 1;
  within : l.room ≤ SCRIPT_LIMIT;
  given : RoseBy (SCRIPT_LIMIT - l.room) (g.S.Source.given l.initial.script) (g.S.Source.given l.script);
  script_later : g.S.Source.faults l.initial.script ≤ g.S.Source.faults l.script;
  keeps : KeepsDevices g.L.Shelf.tells g.L.Shelf.files g.L.Shelf.faults g.D.Desk.faults l.initial.devices l.devices;
}

abbrev pub decreases-pulls : goal.decreases-pulls
decreases-pulls g l = l.room
