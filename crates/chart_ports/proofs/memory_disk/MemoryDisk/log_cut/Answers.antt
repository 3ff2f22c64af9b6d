use Rattle.std.proofs.Common.{rules, refl, sym, ap, ◌∙◌, ◌≡◌, ◌++◌, [], ◌∷◌, true, false}
use Rattle.chart_ports.specs.Log.{events_of, files_after}
use Rattle.chart_ports.specs.MemoryFiles.{files_in}
use Rattle.chart_ports.specs.declared.log.Deed.TheVariants.{Cut}
use Rattle.chart_ports.proofs.Logging.{files_step, room_logged, said_step}
use Rattle.chart_ports.proofs.memory_disk.MemoryDisk.log_cut.Goals.{Else-is_err}
use Rattle.chart_ports.proofs.memory_disk.MemoryDisk.log_cut.Goals as goal

-- where the call is logged, the log has it behind the calls before
logged : (c : Else-is_err) → events_of c.push_call.new.log.items c.push_call.new.pool.items
    ≡ events_of c.args.self.now.log.items c.args.self.now.bytes.items ++
    (Cut c.args.file c.args.length c.args.done, []) ∷ []
logged c = search rules

pub invariant_of-self-then-not-done-clause-files_in_step : goal.invariant_of-self-then-not-done-clause-files_in_step
invariant_of-self-then-not-done-clause-files_in_step c =
    let is : c.args.done ≡ false = search rules in
    let not_done = sym (ap (λ done.
    files_after (files_in c.args.self.now.files) (Cut c.args.file c.args.length done) []) is) in
    files_step c.args.self.now.start _ _ _ _ _ _ c.args.self.now.files_in_step
    (logged (goal.at.invariant_of-self-then-not-done-clause-files_in_step c).Else-is_err) not_done

pub invariant_of-self-then-not-done-clause-said_in_step : goal.invariant_of-self-then-not-done-clause-said_in_step
invariant_of-self-then-not-done-clause-said_in_step c =
    said_step c.args.self.now.start _ _ _ _ _ _ c.args.self.now.said_in_step
    (logged (goal.at.invariant_of-self-then-not-done-clause-said_in_step c).Else-is_err) refl

pub returns-then-not-done-clause-kept : goal.returns-then-not-done-clause-kept
returns-then-not-done-clause-kept c =
    room_logged c.push_call.ensures.log_room c.push_call.ensures.pool_room refl (λ n room. room)

pub invariant_of-self-2-clause-files_in_step : goal.invariant_of-self-2-clause-files_in_step
invariant_of-self-2-clause-files_in_step c =
    let is : c.args.done ≡ true = search rules in
    let cut = c.cut.ensures.files ∙ sym
    (ap (λ done. files_after (files_in c.args.self.now.files) (Cut c.args.file c.args.length done) []) is) in
    files_step c.args.self.now.start _ _ _ _ _ _ c.args.self.now.files_in_step
    (logged (goal.at.invariant_of-self-2-clause-files_in_step c).Else-is_err) cut

pub invariant_of-self-2-clause-said_in_step : goal.invariant_of-self-2-clause-said_in_step
invariant_of-self-2-clause-said_in_step c =
    said_step c.args.self.now.start _ _ _ _ _ _ c.args.self.now.said_in_step
    (logged (goal.at.invariant_of-self-2-clause-said_in_step c).Else-is_err) refl

pub returns-clause-kept : goal.returns-clause-kept
returns-clause-kept c = room_logged c.push_call.ensures.log_room c.push_call.ensures.pool_room refl c.cut.ensures.kept
