use Rattle.chart_ports.proofs.Logging.{uncut}
use Rattle.chart_ports.proofs.Logging.{touches_cut_off}
use Rattle.chart_ports.proofs.memory_disk.MemoryDisk.cut.Goals as goal

pub returns-clause-touches : goal.returns-clause-touches
returns-clause-touches c = touches_cut_off _ _ c.args.file c.args.length c.args.done c.log_cut.result
    c.log_cut.ensures.place c.log_cut.ensures.logged c.log_cut.ensures.stays

pub returns-clause-uncut : goal.returns-clause-uncut
returns-clause-uncut c =
    uncut c.args.self.now c.log_cut.new.self c.args.file c.args.length c.args.done c.log_cut.result c.log_cut.ensures.logged c.log_cut.ensures.stays
