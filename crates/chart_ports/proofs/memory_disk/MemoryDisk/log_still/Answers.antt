use Rattle.std.proofs.Common.{refl, sym}
use Rattle.chart_ports.proofs.Logging.{files_same, room_logged, said_same}
use Rattle.chart_ports.proofs.memory_disk.MemoryDisk.log_still.Goals as goal

pub invariant_of-self-clause-files_in_step : goal.invariant_of-self-clause-files_in_step
invariant_of-self-clause-files_in_step c =
    files_same c.args.self.now.start _ _ _ _ _ c.push_call.result c.push_call.ensures.ok c.push_call.ensures.err
    c.args.self.now.files_in_step (sym (c.requires.files _))

pub invariant_of-self-clause-said_in_step : goal.invariant_of-self-clause-said_in_step
invariant_of-self-clause-said_in_step c =
    said_same c.args.self.now.start _ _ _ _ _ c.push_call.result c.push_call.ensures.ok c.push_call.ensures.err
    c.args.self.now.said_in_step (sym (c.requires.said _))

pub returns-clause-kept : goal.returns-clause-kept
returns-clause-kept c = room_logged c.push_call.ensures.log_room c.push_call.ensures.pool_room refl (λ n room. room)
