-- The chart that the data set of a written cell builds.
use Rattle.std.proofs.Common.{◌≡◌, None, Option, Result, Ok, ap, ◌∙◌}
use Rattle.std.specs.Option.{option_map}
use Rattle.chart_model.specs.Answers.{unless, ◌>>=◌}
use Rattle.chart_model.specs.Cell.{CellValue, IsCell}
use Rattle.chart_closure.specs.declared.fault.ClosureFault.{ClosureFault}
use Rattle.chart_closure.specs.Closed.{closure_fault, IsClosed}
use Rattle.update_sequence.specs.declared.fault.BuildFault.{BuildFault}
use Rattle.update_sequence.specs.declared.fault.BuildFault.TheVariants as of_build
use Rattle.update_sequence.specs.Built.{built}
use Rattle.cell_writer.specs.ReadBack.{data_set_of}
use Rattle.cell_writer.proofs.Insertions.{insertions-folded}

module _ (faultless : (cell : CellValue) → IsCell cell → IsClosed cell → closure_fault cell ≡ None) where
  -- it is the cell again
  pub built-back : (cell : CellValue) → IsCell cell → IsClosed cell → built None (data_set_of cell) ≡ Ok cell
  unfolding built
  built-back cell is closed =
      ap (λ (made : Result CellValue BuildFault). made >>= (λ x. unless (option_map of_build.Closure (closure_fault x)) x)) (insertions-folded cell is)
      ∙ ap (λ (fault : Option ClosureFault). unless (option_map of_build.Closure fault) cell) (faultless cell is closed)
