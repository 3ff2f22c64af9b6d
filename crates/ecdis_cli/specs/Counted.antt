-- How many steps are counted: data records that are come to, features, and names whose records differ.
use Rattle.std.specs.Prelude.{ℕ, ◌+◌, ◌≤◌, List, [], ◌∷◌}
use Rattle.bank_pair.specs.Head.{content_named}
use Rattle.chart_ports.specs.Moments.{images_of}
use Rattle.chart_store.specs.Images.{Reading, most_steps_in}
use Rattle.session_core.specs.Kept.{feature_count}
use Rattle.session_core.specs.Model.{Model}
use Rattle.session_core.specs.Steps.{TakesAtMost}
use Rattle.ecdis_cli.specs.Step.{Step}

-- The steps of lines raise a count to another, one after the other: each by no more than the data records that its line
-- may come to and the features that it draws of a day, and one for each name whose records differ after it.
abbrev pub StepsAreCounted : Model → List Step → ℕ → ℕ → Type 0
StepsAreCounted model [] count count' = count' ≤ count
StepsAreCounted model (step ∷ steps) count count' =
    (between : ℕ) × TakesAtMost step.most model.state step.model.state count between
    × StepsAreCounted step.model steps between count'

-- The most that an opening counts of a store's files: the data records that the commands in the bank that the head
-- names may come to, and none where its bytes are no bank. None of the files in its checkpoint counts.
abbrev pub most_in_bank : (ℕ → List ℕ) → ℕ
most_in_bank contents = most_steps_in (content_named (images_of contents))

-- the same, and the features of the charts that the files read as
abbrev pub most_at_opening : (ℕ → List ℕ) → Reading → ℕ
most_at_opening contents opening = most_in_bank contents + feature_count opening.state.cells
