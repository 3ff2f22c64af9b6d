use Rattle.sample_stores.proofs.Sound.{not-while-sound}
use Rattle.sample_stores.proofs.stores.submit_one.Goals as goal

-- a store that is still sound has not seen the desk fail
pub returns-in_err-submitted-clause-kept : goal.returns-in_err-submitted-clause-kept
returns-in_err-submitted-clause-kept g c = λ tells sound.
    c.submit-answer.ensures.kept tells (not-while-sound _ c.submit-answer.ensures.sound.1 sound)

pub returns-in_err-shown-clause-kept : goal.returns-in_err-shown-clause-kept
returns-in_err-shown-clause-kept g c = λ tells sound.
    c.submit-answer.ensures.kept tells (not-while-sound _ c.submit-answer.ensures.sound.1 sound)

pub returns-clause-kept : goal.returns-clause-kept
returns-clause-kept g c = λ tells sound.
    c.submit-answer.ensures.kept tells (not-while-sound _ c.submit-answer.ensures.sound.1 sound)
