use Rattle.std.proofs.Common.{◌∷◌, [], None, refl}
use Rattle.std.proofs.lemmas.List.Sums.{fold-append}
use Rattle.update_sequence.specs.Rebuilt.{chart_after, held_after, held_by, rebuilt}
use Rattle.update_sequence.proofs.laws.one_file_more.Goals as goal

pub returns-clause-none : goal.returns-clause-none
unfolding held_by rebuilt
returns-clause-none c = (refl, refl)

pub returns-clause-held : goal.returns-clause-held
unfolding held_by
returns-clause-held c = λ files file. fold-append held_after None files (file ∷ [])

pub returns-clause-chart : goal.returns-clause-chart
unfolding rebuilt
returns-clause-chart c = λ files file. fold-append chart_after None files (file ∷ [])
