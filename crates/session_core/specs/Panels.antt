-- What lines about panels reply, and what is known of panels after them.
use Rattle.std.specs.Prelude.{ℕ, Bool, if◌then◌else◌, List, [], ◌∷◌, map, length, Option, Some, None, is_some, Result, Ok, Err}
use Rattle.std.specs.List.{flat_map}
use Rattle.std.specs.FinMap as finite
use Rattle.chart_model.specs.Cell.{CellValue}
use Rattle.chart_model.specs.declared.drawing.Block.{Block}
use Rattle.chart_model.specs.declared.drawing.PanelKey.{PanelKey}
use Rattle.chart_model.specs.declared.state.Holding.{Holding}
use Rattle.chart_store.specs.Loaded.{HoldingsByKey}
use Rattle.draw_list.specs.Blocks.{named_blocks_in}
use Rattle.draw_list.specs.declared.blocks.NamedBlock.{NamedBlock}
use Rattle.panel_port.specs.Panel.{Scene as Blocks}
use Rattle.panel_port.specs.declared.summary.Summary.{Summary}
use Rattle.panel_scenes.specs.Numbered.{with_numbered, without_numbered}
use Rattle.panel_scenes.specs.Painting.{painting_among}
use Rattle.panel_scenes.specs.Scene.{SceneValue, calls_to, refreshing}
use Rattle.panel_scenes.specs.declared.fault.PanelRefusal.{PanelRefusal}
use Rattle.panel_scenes.specs.declared.fault.PanelRefusal.TheVariants as of_panel
use Rattle.scene_sync.specs.declared.progress.Progress.{Progress}
use Rattle.script_reader.specs.declared.event.Event.{Event}
use Rattle.script_reader.specs.declared.event.Event.TheVariants as asks
use Rattle.script_reader.specs.declared.reply.Reply.{Reply}
use Rattle.script_reader.specs.declared.reply.Reply.TheVariants as replies
use Rattle.session_core.specs.declared.refusal.LineRefusal.{LineRefusal}
use Rattle.session_core.specs.declared.refusal.LineRefusal.TheVariants.{Busy, NoPanel, NothingBegun, PanelFault}
use Rattle.session_core.specs.Model.{Model, Portrayal, shown_by, with_scenes}
use Rattle.session_core.specs.Refusal.{reply_of}
use Rattle.session_core.specs.Replied.{Turn, answer_turn, refusal_turn}

-- ---- what panels are to show

-- blocks under the key of a cell and the names of their features
abbrev pub under_key : List ℕ → List NamedBlock → List (PanelKey × Block)
under_key key = map (λ (named : NamedBlock). (record { key = key; name = named.name }, named.block))

-- the blocks of all features of a chart that are shown, with a day of its chart on that day; none where there is no chart
abbrev pub blocks_under : Portrayal → List ℕ → Option CellValue → List (PanelKey × Block)
blocks_under portrayal key None = []
blocks_under portrayal key (Some chart) =
    under_key key (named_blocks_in (shown_by portrayal chart) portrayal.table portrayal.settings)

-- those of all charts that are held
unfoldable pub target_of : Portrayal → HoldingsByKey → Blocks
target_of portrayal cells =
    finite.from_entries (flat_map (λ (entry : List ℕ × Holding). blocks_under portrayal entry.0 entry.1.chart)
    (finite.entries cells))

-- the blocks with these put in one after the other, each in place of the one under its key
abbrev pub with_all : Blocks → List (PanelKey × Block) → Blocks
with_all blocks [] = blocks
with_all blocks (entry ∷ entries) = with_all (finite.insert blocks entry.0 entry.1) entries

-- ---- turns

-- something is replied, and of the model this alone changes, what is known of panels
abbrev pub scenes_turn : Model → Reply → List SceneValue → Turn
scenes_turn model reply scenes = record { reply = reply; command = None; model = with_scenes model scenes }

-- a refresh begins, which is to show these blocks
abbrev pub begun_turn : Model → ℕ → Blocks → SceneValue → Turn
begun_turn model k target scene =
    scenes_turn model (replies.Refresh k (length (calls_to target scene)))
    (with_numbered k (refreshing target scene) model.scenes)

-- so it does, unless there is no panel of this number, or a refresh of it is under way
abbrev pub refresh_turn : Model → ℕ → Option SceneValue → Turn
refresh_turn model k None = refusal_turn model (NoPanel k)
refresh_turn model k (Some scene) =
    if is_some scene.refresh then refusal_turn model Busy
    else begun_turn model k (target_of model.portrayal model.state.cells) scene

-- why something is refused of a panel, as it is of a line
abbrev pub refusal_of_panel : PanelRefusal → LineRefusal
refusal_of_panel (of_panel.NoPanel k) = NoPanel k
refusal_of_panel of_panel.NothingBegun = NothingBegun
refusal_of_panel (of_panel.Failed k) = PanelFault k
refusal_of_panel of_panel.Busy = Busy

abbrev pub painting_reply : ℕ → Result Progress PanelRefusal → Reply
painting_reply k (Ok progress) = replies.Paint k progress.done progress.calls
painting_reply k (Err refusal) = reply_of (refusal_of_panel refusal)

-- so many calls of a refresh are made, unless something is refused of the panel; where it fails it isn't known any more
-- what the panel shows
abbrev pub paint_turn : Model → ℕ → ℕ → Bool → Turn
paint_turn model k n failed =
    let painting = painting_among k n model.scenes failed in
    scenes_turn model (painting_reply k painting.answer) painting.after

-- the numbers of a panel are told, where there is one of this number
abbrev pub panel_turn : Model → ℕ → Summary → Option SceneValue → Turn
panel_turn model k numbers None = refusal_turn model (NoPanel k)
panel_turn model k numbers (Some scene) = answer_turn model (replies.Panel k numbers.blocks numbers.items)

-- a panel is taken out, where there is one of this number
abbrev pub close_turn : Model → ℕ → Option SceneValue → Turn
close_turn model k None = refusal_turn model (NoPanel k)
close_turn model k (Some scene) = scenes_turn model (replies.ClosePanel k) (without_numbered k model.scenes)

-- the lines about panels
abbrev pub IsOfPanel : Event → Type 0
IsOfPanel (asks.Refresh k) = Unit {0}
IsOfPanel (asks.Paint k n) = Unit {0}
IsOfPanel (asks.Panel k) = Unit {0}
IsOfPanel (asks.ClosePanel k) = Unit {0}
IsOfPanel other = ⊥
