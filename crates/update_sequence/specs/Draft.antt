-- A chart that is being built, change by change.
use Rattle.std.specs.Prelude.{◌≡◌, ℕ, ◌+◌, ◌≤◌, List, length, take, drop, Option, Result, Ok, refl}
use Rattle.std.specs.Option.{option_map}
use Rattle.std.specs.Coded.{Coded, code_by, coded×, coded_list, coded_ℕ}
use Rattle.chart_model.specs.Answers.{unless, ◌>>=◌}
use Rattle.chart_model.specs.Cell.{CellValue, cell_code}
use Rattle.chart_model.specs.Change.{Change}
use Rattle.chart_model.specs.Dataset.{DatasetValue}
use Rattle.chart_model.specs.contracts.update_record.UpdateRecord as change
use Rattle.chart_closure.specs.Closed.{closure_fault}
use Rattle.update_sequence.specs.Built.{begun, folded}
use Rattle.update_sequence.specs.Moves.{MOST_MOVES, moves_of}
use Rattle.update_sequence.specs.declared.fault.BuildFault.{BuildFault}
use Rattle.update_sequence.specs.declared.fault.BuildFault.TheVariants as of_build

-- the chart that the changes so far leave; those that are left, in their order; how many more items of lists they may
-- move, all together
pub record DraftValue : Type 0 where
  pub cell : CellValue
  pub rest : List Change
  pub moves : ℕ

-- a draft is stored as the tuple of its fields
abbrev pub draft_code : Coded DraftValue
draft_code =
    code_by (CellValue × (List Change × ℕ)) (coded× cell_code (coded× (coded_list change.the_row.coded) coded_ℕ))
    (λ draft. (draft.cell, (draft.rest, draft.moves)))
    (λ fields. record { cell = fields.0; rest = fields.1.0; moves = fields.1.1 })
    (λ _. refl)

-- the draft of a data set's chart before the first change
abbrev pub first_draft : Option CellValue → DatasetValue → DraftValue
first_draft chart dataset =
    record { cell = begun chart dataset.header; rest = dataset.changes; moves = MOST_MOVES }

-- the chart that the last change leaves, where it is closed
unfoldable pub finished : DraftValue → Result CellValue BuildFault
finished draft = do
  after ← folded draft.cell draft.rest
  unless (option_map of_build.Closure (closure_fault after)) after

-- so many changes more are made
pub record Advances (before after : DraftValue) (made : ℕ) : Type 0 where
  pub within : made ≤ length before.rest
  pub chart : folded before.cell (take made before.rest) ≡ Ok after.cell
  pub rest : after.rest ≡ drop made before.rest
  pub moves : before.moves ≡ after.moves + moves_of before.cell (take made before.rest)
