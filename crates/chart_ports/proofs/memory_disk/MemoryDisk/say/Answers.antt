use Rattle.chart_ports.proofs.Logging.{says_logged}
use Rattle.chart_ports.proofs.memory_disk.MemoryDisk.say.Goals as goal

pub returns-clause-says : goal.returns-clause-says
returns-clause-says c = says_logged _ _ c.args.done c.args.bytes.now c.log_say.result
    c.log_say.ensures.logged c.log_say.ensures.stays
