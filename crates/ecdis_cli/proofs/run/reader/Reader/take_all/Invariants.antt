-- so far the bytes up to the index were taken
use Rattle.std.proofs.Common.{◌+◌, ◌≤◌, take}
use Rattle.std.specs.Prelude.{IsTrue}
use Rattle.ecdis_cli.specs.Devices.{KeepsDevices, LeavesWhere}
use Rattle.ecdis_cli.specs.Progress.{BytesAreTaken}
use Rattle.ecdis_cli.specs.ReaderStanding.{reader_at}
use Rattle.ecdis_cli.specs.Standing.{IsReadyFor, Stands}
use Rattle.ecdis_cli.proofs.run.reader.Reader.take_all.Given as goal

abbrev pub invariant-loop-byte : goal.invariant-loop-byte
invariant-loop-byte g l = record {
  number : l.self.number ≤ l.initial.self.number + l.byte-index;
  advanced : IsTrue g.D.Desk.tells → BytesAreTaken g.L.Shelf.tells (g.L.Shelf.files l.initial.devices.shelf.now)
      (LeavesWhere (Stands g.D.Desk.contents l.initial.devices l.initial.self.session) g.D.Desk.clock g.D.Desk.might l.initial.devices l.devices)
      (reader_at g.L.Shelf.faults g.D.Desk.said (λ panel. goal.Panel-dyn g (panel.vtable, panel.value)) l.initial.self l.initial.devices) (take l.byte-index l.bytes)
      (reader_at g.L.Shelf.faults g.D.Desk.said (λ panel. goal.Panel-dyn g (panel.vtable, panel.value)) l.self l.devices);
  stood : IsTrue g.D.Desk.tells → Stands g.D.Desk.contents l.initial.devices l.initial.self.session
      → Stands g.D.Desk.contents l.devices l.self.session;
  ready : IsReadyFor g.D.Desk.tells g.D.Desk.contents g.D.Desk.may_leave l.devices l.self.number l.self.session;
  keeps : KeepsDevices g.L.Shelf.tells g.L.Shelf.files g.L.Shelf.faults g.D.Desk.faults l.initial.devices l.devices;
}
