use Rattle.chart_ports.proofs.Logging.{touches_written}
use Rattle.chart_ports.proofs.memory_disk.MemoryDisk.write.Goals as goal

pub returns-clause-touches : goal.returns-clause-touches
returns-clause-touches c = touches_written _ _ c.args.file c.args.at c.args.done c.args.bytes.now c.log_write.result
    c.log_write.ensures.place c.log_write.ensures.logged c.log_write.ensures.stays
