use Rattle.sample_stores.proofs.Sound.{not-while-sound}
use Rattle.sample_stores.proofs.runs.Run.commit.Goals as goal

-- a store that is still sound has not seen the desk fail
pub returns-clause-kept : goal.returns-clause-kept
returns-clause-kept g c = λ tells sound.
    c.commit-answer.ensures.kept tells (not-while-sound _ c.commit-answer.ensures.sound.1 sound)
