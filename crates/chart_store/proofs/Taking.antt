-- A file that is taken over where there is room for it.
use Rattle.std.proofs.Common.{◌≡◌, ℕ, ◌+◌, ◌-◌, ◌<◌, ◌≤◌, List, length, Option, Some, IfSome, Ok, Err, refl, sym, ◌∙◌, ap, subst}
use Rattle.std.specs.FinMap as map
use Rattle.chart_closure.specs.Closed.{IsClosed}
use Rattle.chart_model.specs.Cell.{CellValue}
use Rattle.chart_model.specs.State.{IsHolding}
use Rattle.chart_model.specs.declared.state.Held.{Held}
use Rattle.chart_model.specs.declared.state.Holding.{Holding}
use Rattle.update_sequence.specs.declared.effect.Effect.{Effect}
use Rattle.chart_store.specs.declared.refusal.Refusal.TheVariants.{StoreFull}
use Rattle.chart_store.specs.Loaded.{HoldingsByKey, files_of, files_after, live_bytes, store_within, STORE_LIMIT}
use Rattle.chart_store.specs.Next.{CanStand}
use Rattle.chart_store.specs.Loaded.{cell_after}
use Rattle.chart_store.specs.Taken.{replaced_bytes}
use Rattle.chart_store.proofs.Holdings.{live_bytes-put, store_within-full, store_within-room, can-take}

module _ (cells : HoldingsByKey) (key : List ℕ) (effect : Effect) (held : Held) (chart : Option CellValue)
    (file slice : List ℕ) (bytes : ℕ) (whole : slice ≡ file)
    (counted : bytes ≡ live_bytes cells - replaced_bytes (map.get cells key) effect + length slice) where
  count : live_bytes (map.insert cells key (cell_after (map.get cells key) effect held chart file)) ≡ bytes
  count =
      live_bytes-put cells key effect file (cell_after (map.get cells key) effect held chart file) (live_bytes cells)
      refl refl
      ∙ ap (λ (l : List ℕ). live_bytes cells - replaced_bytes (map.get cells key) effect + length l) (sym whole)
      ∙ sym counted

  pub taken-full : STORE_LIMIT < bytes →
      store_within (map.insert cells key (cell_after (map.get cells key) effect held chart file)) ≡ Err (StoreFull bytes)
  taken-full over = store_within-full _ bytes count over

  module _ (files : List (List ℕ)) (before : Option Holding) (found : before ≡ map.get cells key)
      (follow : files ≡ files_after (files_of before) effect file) where
    same_files : files ≡ files_after (files_of (map.get cells key)) effect file
    same_files = follow ∙ ap (λ (o : Option Holding). files_after (files_of o) effect file) found

    pub taken-room : bytes ≤ STORE_LIMIT →
        store_within (map.insert cells key (cell_after (map.get cells key) effect held chart file)) ≡ Ok (record
        { cells = map.insert cells key (record { held = held; files = files; chart = chart }) })
    taken-room within =
        store_within-room _ bytes count within
        ∙ ap (λ (fs : List (List ℕ)). Ok (record
        { cells = map.insert cells key (record { held = held; files = fs; chart = chart }) })) (sym same_files)

    pub taken-stands : bytes ≤ STORE_LIMIT →
        IsHolding key (cell_after (map.get cells key) effect held chart file) → IfSome chart IsClosed →
        CanStand cells key (Some (record { held = held; files = files; chart = chart })) bytes
    taken-stands within holds closed =
        can-take cells key effect file _ bytes same_files
        (subst (λ (fs : List (List ℕ)). IsHolding key (record { held = held; files = fs; chart = chart })) (sym same_files)
        holds)
        closed
        (counted ∙ ap (λ (l : List ℕ). live_bytes cells - replaced_bytes (map.get cells key) effect + length l) whole)
        within
