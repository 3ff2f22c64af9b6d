use Rattle.chart_ports.proofs.Logging.{unsettled_synced}
use Rattle.chart_ports.proofs.Logging.{keeps_synced}
use Rattle.chart_ports.proofs.memory_disk.MemoryDisk.sync.Goals as goal

pub returns-clause-keeps : goal.returns-clause-keeps
returns-clause-keeps c = keeps_synced _ _ c.args.file c.args.done c.log_still.result c.log_still.ensures.logged
    c.log_still.ensures.stays

pub returns-clause-unsettled : goal.returns-clause-unsettled
returns-clause-unsettled c =
    unsettled_synced c.args.self.now c.log_still.new.self c.args.file c.args.done c.log_still.result c.log_still.ensures.logged c.log_still.ensures.stays
