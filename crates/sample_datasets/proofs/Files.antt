-- What a file that was read is.
use Rattle.std.proofs.Common.{◌≡◌, ◌∙◌, ℕ, List, [], ◌∷◌, ◌++◌, Option, Some, Ok, length, sym, ap, subst}
use Rattle.chart_model.specs.Cell.{CellValue}
use Rattle.chart_model.specs.Dataset.{DatasetValue}
use Rattle.chart_model.specs.State.{IsFileLength}
use Rattle.chart_model.specs.declared.state.Held.{Held}
use Rattle.update_sequence.specs.declared.effect.Effect.{Effect}
use Rattle.update_sequence.specs.Judged.{judged}
use Rattle.update_sequence.specs.Reading.{data_set_in}
use Rattle.update_sequence.specs.Rebuilt.{held_by}
use Rattle.update_sequence.specs.Sequence.{IsFileOf, IsUpdateSequence, Leaves}

-- the bytes that were read and those that were tested are those of a whole file of the cell
pub is_file : (key file read tested : List ℕ) (dataset : DatasetValue) → read ≡ file → tested ≡ file
    → data_set_in read ≡ Ok dataset → IsFileLength (length tested) × (dataset.header.key ≡ key) → IsFileOf key file dataset
is_file key file read tested dataset read_all tested_all reads fits = record {
  short = subst (λ (bytes : List ℕ). IsFileLength (length bytes)) tested_all fits.0;
  reads = ap data_set_in (sym read_all) ∙ reads;
  keyed = fits.1;
}

-- a file of the cell was judged by what those before it leave, and was put behind them
pub record IsPutBehind (key : List ℕ) (before : List (List ℕ)) (file : List ℕ) (dataset : DatasetValue) (effect : Effect) (files : List (List ℕ)) : Type 0 where
  pub sequence : IsUpdateSequence key before
  pub is : IsFileOf key file dataset
  pub effect_is : judged (held_by before) dataset ≡ Ok effect
  pub all : files ≡ before ++ file ∷ []

-- a file that was read, tested and judged, and was pushed behind the files before
pub put_behind : (key : List ℕ) (before : List (List ℕ)) (held : Held) (chart : Option CellValue) (file read tested put : List ℕ) (dataset : DatasetValue) (effect : Effect) (files : List (List ℕ))
    → Leaves key before (Some held) chart → read ≡ file → tested ≡ file → data_set_in read ≡ Ok dataset → IsFileLength (length tested) × (dataset.header.key ≡ key)
    → Ok effect ≡ judged (Some held) dataset → files ≡ before ++ put ∷ [] → put ≡ file → IsPutBehind key before file dataset effect files
put_behind key before held chart file read tested put dataset effect files was read_all tested_all reads fits answer pushed put_all = record {
  sequence = was.sequence;
  is = is_file key file read tested dataset read_all tested_all reads fits;
  effect_is = ap (λ (h : Option Held). judged h dataset) was.numbers ∙ sym answer;
  all = pushed ∙ ap (λ (f : List ℕ). before ++ f ∷ []) put_all;
}
