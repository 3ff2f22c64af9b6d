-- What a re-issue of a held chart leaves: the chart, and a refusal only where there is no room for it.
use Rattle.std.specs.Prelude.{◌≡◌, ◌⊎◌, ℕ, List, Some, Ok, Err}
use Rattle.std.specs.FinMap as map
use Rattle.chart_model.specs.Cell.{CellValue}
use Rattle.chart_model.specs.declared.command.Command.TheVariants.{Load}
use Rattle.chart_model.specs.declared.state.Holding.{Holding}
use Rattle.cell_bytes.specs.Written.{base_file_of}
use Rattle.cell_writer.specs.ReadBack.{IsBaseFileOf}
use Rattle.chart_store.specs.Loaded.{HoldingsByKey, store_within}
use Rattle.chart_store.specs.Outcome.{record_size, room_within}
use Rattle.chart_store.specs.Reissued.{held_by_file}
use Rattle.chart_store.specs.declared.refusal.Refusal.TheVariants.{BankFull, StoreFull}
use Rattle.script_reader.specs.declared.event.Event.TheVariants as asks
use Rattle.script_reader.specs.declared.reply.Reply.TheVariants as replies
use Rattle.session_core.specs.Held.{chart_of}
use Rattle.session_core.specs.Model.{Model}
use Rattle.session_core.specs.Outside.{FromOutside}
use Rattle.session_core.specs.Replied.{Turn, refusal_turn}
use Rattle.session_core.specs.Turn.{turn_of}
use Rattle.session_core.specs.Written.{or_refused}
use Rattle.session_core.specs.declared.refusal.LineRefusal.{LineRefusal}
use Rattle.session_core.specs.declared.refusal.LineRefusal.TheVariants.{CellLong, RecordLong, Store}

-- the file that is written of a cell's chart is a base file of it
abbrev pub ReadsBack : HoldingsByKey → List ℕ → Type 0
ReadsBack cells key =
    (chart : CellValue) (file : List ℕ) → chart_of cells key ≡ Some chart → base_file_of chart ≡ Ok file
    → IsBaseFileOf chart file

-- why a chart may not be re-issued: a record of it or its file is too long, or the live files with that file are, or
-- the bank has no room for it
abbrev pub LacksRoom : Model → List ℕ → Holding → CellValue → LineRefusal → Type 0
LacksRoom model key here chart (RecordLong name bytes) = or_refused (base_file_of chart) ≡ Err (RecordLong name bytes)
LacksRoom model key here chart (CellLong bytes) = or_refused (base_file_of chart) ≡ Err (CellLong bytes)
LacksRoom model key here chart (Store (StoreFull bytes)) =
    (file : List ℕ) × (base_file_of chart ≡ Ok file)
    × (store_within (map.insert model.state.cells key (held_by_file here file)) ≡ Err (StoreFull bytes))
LacksRoom model key here chart (Store (BankFull length more)) =
    (file : List ℕ) × (base_file_of chart ≡ Ok file)
    × (room_within model.room (record_size (Load file)) ≡ Err (BankFull length more))
LacksRoom model key here chart other = ⊥

-- The chart stays, and the reply has the numbers that are held of it, unless there is no room.
pub record KeepsChart (model : Model) (key : List ℕ) (here : Holding) (chart : CellValue) (turn : Turn) : Type 0 where
  pub reply : (turn.reply ≡ replies.Reissue key here.held.edition here.held.update)
      ⊎ ((refusal : LineRefusal) × LacksRoom model key here chart refusal × (turn ≡ refusal_turn model refusal))
  pub stays : chart_of turn.model.state.cells key ≡ Some chart

-- so does the line `reissue` of a cell that is held and not cancelled
abbrev pub ReissueKeepsChart : Model → List ℕ → Type 0
ReissueKeepsChart model key =
    (outside : FromOutside) (here : Holding) (chart : CellValue) → map.get model.state.cells key ≡ Some here
    → here.chart ≡ Some chart → KeepsChart model key here chart (turn_of outside model (asks.Reissue key))
