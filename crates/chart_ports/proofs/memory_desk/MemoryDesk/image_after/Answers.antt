use Rattle.std.proofs.Common.{take}
use Rattle.chart_ports.specs.MemoryDesk.{events, start_of}
use Rattle.chart_ports.proofs.Logs.{read_new}
use Rattle.chart_ports.proofs.memory_desk.MemoryDesk.image_after.Goals as goal

pub returns-clause-read : goal.returns-clause-read
returns-clause-read c = λ is. read_new c.args.fill (start_of c.args.self.now) (take c.args.calls (events c.args.self.now))
    c.image_after.result c.image_after.ensures is
