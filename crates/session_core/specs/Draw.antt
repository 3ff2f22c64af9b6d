-- What the line `draw` answers.
use Rattle.std.specs.Prelude.{ℕ, List, Result, Ok}
use Rattle.chart_model.specs.Answers.{◌>>=◌, or_fault}
use Rattle.chart_store.specs.Loaded.{HoldingsByKey}
use Rattle.chart_store.specs.declared.refusal.Refusal.TheVariants.{NoCell}
use Rattle.script_reader.specs.declared.reply.Reply.{Reply}
use Rattle.session_lists.specs.Draw.{draw_reply}
use Rattle.session_core.specs.declared.refusal.LineRefusal.{LineRefusal}
use Rattle.session_core.specs.declared.refusal.LineRefusal.TheVariants.{Store}
use Rattle.session_core.specs.Held.{chart_of}
use Rattle.session_core.specs.Model.{Portrayal, shown_by}

-- the drawing of the cell of this key, with a day of its chart on that day
unfoldable pub draw_of : Portrayal → HoldingsByKey → List ℕ → Result Reply LineRefusal
draw_of portrayal cells key = do
  chart ← or_fault (Store (NoCell key)) (chart_of cells key)
  Ok (draw_reply portrayal.table portrayal.settings key (shown_by portrayal chart))
