use Rattle.std.proofs.Common.{rules, arith, refl, ap, ◌∙◌, ◌≡◌, ◌+◌, ◌++◌, [], ◌∷◌, length, length-take}
use Rattle.chart_ports.specs.Log.{events_of, files_after}
use Rattle.chart_ports.specs.declared.images.Images.{Images}
use Rattle.chart_ports.specs.declared.log.Deed.TheVariants.{Write}
use Rattle.chart_ports.proofs.Logging.{file_room_less, files_step, said_step}
use Rattle.chart_ports.proofs.memory_disk.MemoryDisk.log_write.Goals as goal

pub invariant_of-self-2-clause-files_in_step : goal.invariant_of-self-2-clause-files_in_step
invariant_of-self-2-clause-files_in_step c =
    let logged : events_of c.push_call.new.log.items c.push_call.new.pool.items
    ≡ events_of c.args.self.now.log.items c.args.self.now.bytes.items ++
    (Write c.args.file c.args.at c.args.done, c.args.bytes.now) ∷ [] = search rules in
    files_step c.args.self.now.start _ _ _ _ _ _ c.args.self.now.files_in_step logged (c.write.ensures.files
    ∙ ap (λ (f : Images). files_after f
    (Write c.args.file c.args.at c.args.done) c.args.bytes.now) c.reserve.ensures.files)

pub invariant_of-self-2-clause-said_in_step : goal.invariant_of-self-2-clause-said_in_step
invariant_of-self-2-clause-said_in_step c =
    let logged : events_of c.push_call.new.log.items c.push_call.new.pool.items
    ≡ events_of c.args.self.now.log.items c.args.self.now.bytes.items ++
    (Write c.args.file c.args.at c.args.done, c.args.bytes.now) ∷ [] = search rules in
    said_step c.args.self.now.start _ _ _ _ _ _ c.args.self.now.said_in_step logged refl

pub returns-clause-kept : goal.returns-clause-kept
returns-clause-kept c = λ calls n room. record {
  log = c.push_call.ensures.log_room calls room.log;
  pool = c.push_call.ensures.pool_room n room.pool;
  said = omega (arith, room.said);
  files = c.write.ensures.kept n (file_room_less c.reserve.new.self _ (n + length c.args.bytes.now)
      (omega (arith, length-take c.args.done c.args.bytes.now))
      (c.reserve.ensures.kept (n + length c.args.bytes.now) room.files));
}
