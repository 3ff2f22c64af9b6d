use Rattle.chart_ports.proofs.Logging.{keeps_noted}
use Rattle.chart_ports.proofs.memory_disk.MemoryDisk.note.Goals as goal

pub returns-clause-keeps : goal.returns-clause-keeps
returns-clause-keeps c = keeps_noted _ _ c.log_still.result c.log_still.ensures.logged c.log_still.ensures.stays
