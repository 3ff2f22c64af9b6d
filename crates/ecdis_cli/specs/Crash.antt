-- What a crash leaves of a run.
use Rattle.std.specs.Prelude.{◌≡◌, ◌⊎◌, ℕ, ◌+◌, ◌≤◌, List, ◌++◌, length, take}
use Rattle.chart_model.specs.State.{StateValue}
use Rattle.chart_ports.specs.declared.images.Images.{Images}
use Rattle.chart_store.specs.Images.{StandFor}
use Rattle.chart_store.specs.Outcome.{after}
use Rattle.ecdis_cli.specs.Step.{Step}
use Rattle.ecdis_cli.specs.Script.{output_of, commands_in, begun_steps}

-- A front of the output was said. The files stand for what the first accepted commands leave, as many of them as have a
-- reply that was begun, or one more.
pub record LeavesPrefix (opening : StateValue) (steps : List Step) (said : List ℕ) (images : Images)
    (so_far : List ℕ) : Type 0 where
  pub bytes : ℕ
  pub front : so_far ≡ said ++ take bytes (output_of steps)
  pub within : bytes ≤ length (output_of steps)
  pub count : ℕ
  pub there : count ≤ length (commands_in steps)
  pub acknowledged : (count ≡ length (commands_in (begun_steps bytes steps)))
      ⊎ (count ≡ length (commands_in (begun_steps bytes steps)) + 1)
  pub stands : StandFor images (after opening (take count (commands_in steps)))
