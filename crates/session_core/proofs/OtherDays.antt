-- Turns of sessions that go by different days.
use Rattle.std.proofs.Common.{◌≡◌, ℕ, Bool, true, false, cond, List, Option, Some, None, Result, Ok, Err, refl, sym, ◌∙◌, ap, subst}
use Rattle.chart_model.specs.declared.command.Command.{Command}
use Rattle.chart_ports.specs.declared.shelf.Fetched.{Fetched}
use Rattle.chart_store.specs.Loaded.{FILE_LIMIT, Outcome}
use Rattle.chart_store.specs.Outcome.{accepted}
use Rattle.chart_store.specs.Staging.{StagedValue, step_of}
use Rattle.chart_store.specs.declared.refusal.Refusal as of_store
use Rattle.chart_store.specs.declared.refusal.Refusal.TheVariants as refuses
use Rattle.date_display.specs.Days.{DateValue}
use Rattle.panel_scenes.specs.Scene.{SceneValue}
use Rattle.script_reader.specs.declared.event.Event.{Event}
use Rattle.script_reader.specs.declared.event.Event.TheVariants as asks
use Rattle.script_reader.specs.declared.reply.Reply.{Reply}
use Rattle.script_reader.specs.declared.reply.Reply.TheVariants as replies
use Rattle.session_core.specs.declared.changes.order.Order.{Order}
use Rattle.session_core.specs.declared.refusal.LineRefusal.{LineRefusal}
use Rattle.session_core.specs.declared.refusal.LineRefusal.TheVariants.{Store}
use Rattle.session_core.specs.Days.{IsAlike, ShowsCharts, but_for_days}
use Rattle.session_core.specs.Draw.{draw_of}
use Rattle.session_core.specs.Fetch.{Fetches, file_in}
use Rattle.session_core.specs.Info.{info_of}
use Rattle.session_core.specs.Model.{Model, Progress, Staging}
use Rattle.session_core.specs.Order.{commit_order, decision_turn, drop_order, load_order, make_order, order_turn, reissue_order, rollback_order}
use Rattle.session_core.specs.Outside.{FromOutside}
use Rattle.session_core.specs.Panels.{IsOfPanel}
use Rattle.session_core.specs.Replied.{Turn, refusal_turn, reply_turn}
use Rattle.session_core.specs.Route.{ROUTE_LIMIT, cover_of, route_of}
use Rattle.session_core.specs.Save.{bank_bytes, is_done_by, is_too_long, model_saving, room_saved, slices_of, written_more}
use Rattle.session_core.specs.Staging.{change_turn, changed_turn, commit_turn, committed_turn, stage_turn, staged_in, staged_turn, unstaged}
use Rattle.session_core.specs.Turn.{begin_turn, save_turn, step_turn, turn_of}
use Rattle.session_lists.specs.Cells.{cells_reply}
use Rattle.session_core.proofs.Leaving.{of-panel, replied-none, replied-same, reply_by}

-- a session that goes by this day, and knows this of panels
abbrev going_by : Option DateValue → List SceneValue → Model → Model
going_by day scenes model = record model { portrayal = record model.portrayal { day = day }; scenes = scenes }

abbrev turned_by : Option DateValue → List SceneValue → Turn → Turn
turned_by day scenes turn = record turn { model = going_by day scenes turn.model }

-- ---- turns that go by no day

module _ (day : Option DateValue) (scenes : List SceneValue) where
  replied : (model : Model) (r : Result Reply LineRefusal)
      → reply_turn (going_by day scenes model) r ≡ turned_by day scenes (reply_turn model r)
  replied model (Ok reply) = refl
  replied model (Err refusal) = refl

  decided : (model : Model) (own : Command) (reply : Outcome → Reply) (r : Result Outcome of_store.Refusal)
      → decision_turn (going_by day scenes model) own reply r ≡ turned_by day scenes (decision_turn model own reply r)
  decided model own reply (Ok done) = refl
  decided model own reply (Err refusal) = refl

  ordered : (model : Model) (order : Result Order LineRefusal)
      → order_turn (going_by day scenes model) order ≡ turned_by day scenes (order_turn model order)
  ordered model (Ok order) =
      decided model order.command (reply_by order) (accepted model.state model.room order.command)
  ordered model (Err refusal) = refl

  staged : (model : Model) (r : Result Staging LineRefusal)
      → staged_turn (going_by day scenes model) r ≡ turned_by day scenes (staged_turn model r)
  staged model (Ok staging) = refl
  staged model (Err refusal) = refl

  begun : (model : Model) (name : List ℕ) (fetched : Option Fetched) (staging : Option Staging)
      → stage_turn (going_by day scenes model) name fetched staging
      ≡ turned_by day scenes (stage_turn model name fetched staging)
  begun model name fetched (Some staging) = refl
  begun model name fetched None = staged model (staged_in model.count model.state (file_in FILE_LIMIT name fetched))

  changed : (model : Model) (staging : Staging) (r : Result StagedValue of_store.Refusal)
      → changed_turn (going_by day scenes model) staging r ≡ turned_by day scenes (changed_turn model staging r)
  changed model staging (Ok made) = refl
  changed model staging (Err refusal) = refl

  stepped : (model : Model) (n : ℕ) (staging : Option Staging)
      → change_turn (going_by day scenes model) n staging ≡ turned_by day scenes (change_turn model n staging)
  stepped model n None = refl
  stepped model n (Some staging) = changed model staging (step_of n staging.staged)

  over : (model : Model) (staging : Staging) (last : Option ℕ)
      → committed_turn (going_by day scenes model) staging last ≡ turned_by day scenes (committed_turn model staging last)
  over model staging (Some last) = refl
  over model staging None = ordered model (Ok (commit_order staging.staged.file))

  committed : (model : Model) (staging : Option Staging)
      → commit_turn (going_by day scenes model) staging ≡ turned_by day scenes (commit_turn model staging)
  committed model None = refl
  committed model (Some staging) = over (unstaged model) staging staging.last

  -- whether a save would be too long
  abbrev saved_if : Model → Bool → Turn
  saved_if model b =
      cond b (refusal_turn model (Store (refuses.BankFull 0 (bank_bytes model.state))))
      (save_turn (replies.Save (slices_of model.state)) (model_saving model))

  saving : (model : Model) (save : Option Progress)
      → begin_turn (going_by day scenes model) save ≡ turned_by day scenes (begin_turn model save)
  saving model (Some save) = refl
  saving model None =
      elim (is_too_long model.state) as (λ b. saved_if (going_by day scenes model) b ≡ turned_by day scenes (saved_if model b)) [
        | true ↦ refl
        | false ↦ refl
      ]

  -- whether its last slice is written
  abbrev written_if : Model → Progress → ℕ → Bool → Turn
  written_if model save n b =
      save_turn (cond b replies.Saved (replies.SaveStep (written_more save n).written save.slices))
      (cond b (record model { room = room_saved model.room; save = None }) (record model { save = Some (written_more save n) }))

  writing : (model : Model) (n : ℕ) (save : Option Progress)
      → step_turn (going_by day scenes model) n save ≡ turned_by day scenes (step_turn model n save)
  writing model n None = refl
  writing model n (Some save) =
      elim (is_done_by save n) as (λ b. written_if (going_by day scenes model) save n b ≡ turned_by day scenes (written_if model save n b)) [
        | true ↦ refl
        | false ↦ refl
      ]

-- ---- all turns

-- a turn that is the same but for the day and the panels
the-same : (event : Event) (day : Option DateValue) (scenes : List SceneValue) (turn other : Turn) → other ≡ turned_by day scenes turn
    → IsAlike event turn other
the-same event day scenes turn other is = record {
  command = ap (λ (t : Turn). t.command) (sym is);
  model = ap (λ (t : Turn). but_for_days t.model) (sym is);
  reply = λ no. ap (λ (t : Turn). t.reply) (sym is);
}

-- turns of lines that show charts leave the same
showing : (event : Event) (model other : Model) (turn turn' : Turn) → ShowsCharts event → but_for_days model ≡ but_for_days other
    → turn.command ≡ None → turn'.command ≡ None → but_for_days turn.model ≡ but_for_days model
    → but_for_days turn'.model ≡ but_for_days other → IsAlike event turn turn'
showing event model other turn turn' shows same none none' left left' = record {
  command = none ∙ sym none';
  model = left ∙ same ∙ sym left';
  reply = λ no. absurd (no shows);
}

panel-alike : (event : Event) (outside elsewhere : FromOutside) (model other : Model) → ShowsCharts event → IsOfPanel event
    → but_for_days model ≡ but_for_days other → IsAlike event (turn_of outside model event) (turn_of elsewhere other event)
panel-alike event outside elsewhere model other shows of same =
    let here = of-panel outside model event of in
    let there = of-panel elsewhere other event of in
    showing event model other (turn_of outside model event) (turn_of elsewhere other event) shows same here.0 there.0
    (ap but_for_days here.1) (ap but_for_days there.1)

draw-alike : (key : List ℕ) (model other : Model) (r r' : Result Reply LineRefusal) → but_for_days model ≡ but_for_days other
    → IsAlike (asks.Draw key) (reply_turn model r) (reply_turn other r')
draw-alike key model other r r' same =
    showing (asks.Draw key) model other (reply_turn model r) (reply_turn other r') tt same (replied-none model r)
    (replied-none other r') (ap but_for_days (replied-same model r)) (ap but_for_days (replied-same other r'))

-- of a session that goes by another day, with the same answers of the shelf
module _ (day : Option DateValue) (scenes : List SceneValue) (model : Model) (outside elsewhere : FromOutside)
    (fetched : outside.fetches ≡ elsewhere.fetches) where
  alike : (event : Event) → IsAlike event (turn_of outside model event) (turn_of elsewhere (going_by day scenes model) event)
  unfolding turn_of
  alike (asks.Info name) =
      the-same (asks.Info name) day scenes _ _
      (ap (λ (f : Fetches). reply_turn (going_by day scenes model) (info_of name (f FILE_LIMIT name))) (sym fetched)
      ∙ replied day scenes model (info_of name (outside.fetches FILE_LIMIT name)))
  alike asks.Cells = the-same asks.Cells day scenes _ _ (replied day scenes model (Ok (cells_reply model.state.cells)))
  alike (asks.Draw key) =
      draw-alike key model (going_by day scenes model) (draw_of model.portrayal model.state.cells key)
      (draw_of (going_by day scenes model).portrayal model.state.cells key) refl
  alike (asks.Route name) =
      the-same (asks.Route name) day scenes _ _
      (ap (λ (f : Fetches). reply_turn (going_by day scenes model) (route_of model.portrayal.settings model.state name (f ROUTE_LIMIT name)))
      (sym fetched)
      ∙ replied day scenes model (route_of model.portrayal.settings model.state name (outside.fetches ROUTE_LIMIT name)))
  alike (asks.Cover name) =
      the-same (asks.Cover name) day scenes _ _
      (ap (λ (f : Fetches). reply_turn (going_by day scenes model) (cover_of model.state name (f ROUTE_LIMIT name))) (sym fetched)
      ∙ replied day scenes model (cover_of model.state name (outside.fetches ROUTE_LIMIT name)))
  alike (asks.Load name) =
      the-same (asks.Load name) day scenes _ _
      (ap (λ (f : Fetches). order_turn (going_by day scenes model) (load_order name (f FILE_LIMIT name))) (sym fetched)
      ∙ ordered day scenes model (load_order name (outside.fetches FILE_LIMIT name)))
  alike (asks.Rollback key update) =
      the-same (asks.Rollback key update) day scenes _ _ (ordered day scenes model (Ok (rollback_order key update)))
  alike (asks.Drop key) = the-same (asks.Drop key) day scenes _ _ (ordered day scenes model (Ok (drop_order key)))
  alike (asks.Begin name) =
      the-same (asks.Begin name) day scenes _ _
      (ap (λ (f : Fetches). stage_turn (going_by day scenes model) name (f FILE_LIMIT name) model.staging) (sym fetched)
      ∙ begun day scenes model name (outside.fetches FILE_LIMIT name) model.staging)
  alike (asks.Step n) = the-same (asks.Step n) day scenes _ _ (stepped day scenes model n model.staging)
  alike asks.Commit = the-same asks.Commit day scenes _ _ (committed day scenes model model.staging)
  alike asks.Save = the-same asks.Save day scenes _ _ (saving day scenes model model.save)
  alike (asks.SaveStep slices) = the-same (asks.SaveStep slices) day scenes _ _ (writing day scenes model slices model.save)
  alike (asks.Refresh k) =
      panel-alike (asks.Refresh k) outside elsewhere model (going_by day scenes model) tt tt refl
  alike (asks.Paint k n) =
      panel-alike (asks.Paint k n) outside elsewhere model (going_by day scenes model) tt tt refl
  alike (asks.Panel k) = panel-alike (asks.Panel k) outside elsewhere model (going_by day scenes model) tt tt refl
  alike (asks.ClosePanel k) =
      panel-alike (asks.ClosePanel k) outside elsewhere model (going_by day scenes model) tt tt refl
  alike (asks.Make areas update) =
      the-same (asks.Make areas update) day scenes _ _ (ordered day scenes model (make_order areas update))
  alike (asks.Reissue key) =
      the-same (asks.Reissue key) day scenes _ _ (ordered day scenes model (reissue_order model.state.cells key))

-- one that goes by another day and is else the same is such a session
as-going-by : (model other : Model) → but_for_days model ≡ but_for_days other
    → going_by other.portrayal.day other.scenes model ≡ other
as-going-by model other same = ap (going_by other.portrayal.day other.scenes) same

pub turns-alike : (outside elsewhere : FromOutside) (model other : Model) (event : Event) → outside.fetches ≡ elsewhere.fetches
    → but_for_days model ≡ but_for_days other → IsAlike event (turn_of outside model event) (turn_of elsewhere other event)
turns-alike outside elsewhere model other event fetched same =
    subst (λ (m : Model). IsAlike event (turn_of outside model event) (turn_of elsewhere m event)) (as-going-by model other same)
    (alike other.portrayal.day other.scenes model outside elsewhere fetched event)
