use Rattle.sample_stores.proofs.Sound.{save-count, save-kept}
use Rattle.sample_stores.proofs.runs.Run.answer.Goals as goal

pub returns-in-Save-clause-kept : goal.returns-in-Save-clause-kept
returns-in-Save-clause-kept g c = λ tells sound.
    save-kept _ _ c.args.self.now.store c.save.new.self.store
    (λ slices kept begun. c.begun_saves_are_kept.ensures c.args.desk.now slices c.args.self.now.store c.save.new.self.store kept begun)
    c.save.ensures.begun (c.requires.kept tells)

pub returns-in-Save-clause-count : goal.returns-in-Save-clause-count
returns-in-Save-clause-count g c = save-count c.args.self.now.store c.save.new.self.store c.save.ensures.begun
