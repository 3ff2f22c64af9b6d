use Rattle.std.proofs.Common.{rules, arith, refl, ap, ◌∙◌, ◌≡◌, ◌+◌, ◌++◌, [], ◌∷◌, ℕ, List, length, take, length-take}
use Rattle.chart_ports.specs.Log.{events_of}
use Rattle.chart_ports.specs.declared.log.Deed.TheVariants.{Say}
use Rattle.chart_ports.proofs.Logging.{file_room_less, files_step, said_step}
use Rattle.chart_ports.proofs.memory_disk.MemoryDisk.log_say.Goals as goal

pub invariant_of-self-2-clause-files_in_step : goal.invariant_of-self-2-clause-files_in_step
invariant_of-self-2-clause-files_in_step c =
    let logged : events_of c.push_call.new.log.items c.push_call.new.pool.items
    ≡ events_of c.args.self.now.log.items c.args.self.now.bytes.items ++ (Say c.args.done, c.args.bytes.now) ∷ [] =
    search rules in
    files_step c.args.self.now.start _ _ _ _ _ _ c.args.self.now.files_in_step logged refl

pub invariant_of-self-2-clause-said_in_step : goal.invariant_of-self-2-clause-said_in_step
invariant_of-self-2-clause-said_in_step c =
    let logged : events_of c.push_call.new.log.items c.push_call.new.pool.items
    ≡ events_of c.args.self.now.log.items c.args.self.now.bytes.items ++ (Say c.args.done, c.args.bytes.now) ∷ [] =
    search rules in
    said_step c.args.self.now.start _ _ _ _ _ _ c.args.self.now.said_in_step logged
    (c.append.ensures.items ∙ ap (λ (l : List ℕ). l ++ take c.args.done c.args.bytes.now) c.reserve.ensures.items)

pub returns-clause-kept : goal.returns-clause-kept
returns-clause-kept c = λ calls n room. record {
  log = c.push_call.ensures.log_room calls room.log;
  pool = c.push_call.ensures.pool_room n room.pool;
  said = omega (
    arith,
    room.said,
    c.append.ensures.len,
    c.append.ensures.capacity,
    c.reserve.ensures.len,
    c.reserve.ensures.capacity,
    length-take c.args.done c.args.bytes.now,
  );
  files = file_room_less _ n (n + length c.args.bytes.now) (omega arith) room.files;
}
