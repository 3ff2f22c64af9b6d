use Rattle.scene_sync.proofs.Shows.{get-differing-change, get-equal-change, shows-target}
use Rattle.scene_sync.proofs.laws.calls_are_differences.Goals as goal

pub returns-clause-differing : goal.returns-clause-differing
returns-clause-differing c = λ shown target key differ. get-differing-change shown target key differ

pub returns-clause-equal : goal.returns-clause-equal
returns-clause-equal c = λ shown target key equal. get-equal-change shown target key equal

pub returns-clause-target : goal.returns-clause-target
returns-clause-target c = λ shown target. shows-target shown target
