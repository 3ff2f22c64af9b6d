-- Sessions that go by different days, or by none, and else are the same.
use Rattle.std.specs.Prelude.{◌≡◌, [], None}
use Rattle.script_reader.specs.declared.event.Event.{Event}
use Rattle.script_reader.specs.declared.event.Event.TheVariants as asks
use Rattle.session_core.specs.Model.{Model}
use Rattle.session_core.specs.Replied.{Turn}

-- what they have in common: all but the day, and what is known of panels
abbrev pub but_for_days : Model → Model
but_for_days model = record model { portrayal = record model.portrayal { day = None }; scenes = [] }

-- the lines to which their replies may differ: `draw`, and those about panels
abbrev pub ShowsCharts : Event → Type 0
ShowsCharts (asks.Draw key) = Unit {0}
ShowsCharts (asks.Refresh k) = Unit {0}
ShowsCharts (asks.Paint k n) = Unit {0}
ShowsCharts (asks.Panel k) = Unit {0}
ShowsCharts (asks.ClosePanel k) = Unit {0}
ShowsCharts other = ⊥

-- in both turns of an event the same is accepted and left, and the same is replied, unless the line shows charts
pub record IsAlike (event : Event) (turn other : Turn) : Type 0 where
  pub command : turn.command ≡ other.command
  pub model : but_for_days turn.model ≡ but_for_days other.model
  pub reply : ¬ ShowsCharts event → turn.reply ≡ other.reply
