-- What is shown where a refresh has just begun.
use Rattle.std.proofs.Common.{◌≡◌, nat_eq, true, false, if◌then◌else◌, List, [], ◌∷◌, length, Option, Some}
use Rattle.std.proofs.Common.{arith, refl, sym, ap, subst, ◌∙◌}
use Rattle.std.proofs.lemmas.Bool.Decides.{Decides-eqb}
use Rattle.panel_port.specs.Panel.{Scene as Blocks}
use Rattle.scene_sync.specs.Calls.{PanelCall, after_calls}
use Rattle.scene_sync.specs.Scene.{Agrees}
use Rattle.scene_sync.proofs.Shows.{shows-target}
use Rattle.panel_scenes.specs.Scene.{SceneValue, calls_to, refresh_to, refreshing, shown_at}

no-calls : (calls : List PanelCall) → 0 ≡ length calls → [] ≡ calls
no-calls [] none = refl
no-calls (call ∷ calls) none = absurd (omega (arith, none))

-- it leaves what is shown: without a call the target is shown already
refresh-shows : (target : Blocks) (scene : SceneValue) → shown_at (refresh_to target scene) scene.shown ≡ scene.shown
refresh-shows target scene =
    let calls = calls_to target scene in
    elim (nat_eq 0 (length calls)) as
    (λ b. nat_eq 0 (length calls) ≡ b → (if b then Some target else scene.shown) ≡ scene.shown) [
      | true ↦ λ none.
          sym
          (ap (λ made. after_calls true made scene.shown) (no-calls calls ((Decides-eqb 0 (length calls)).0 none))
          ∙ shows-target scene.shown target)
      | false ↦ λ _. refl
    ] refl

-- so a panel that showed what its scene says goes on doing so
pub refresh-agrees : (target : Blocks) (scene : SceneValue) (told : Option Blocks) → Agrees scene.shown told
    → Agrees (refreshing target scene).shown told
refresh-agrees target scene told agrees = subst (λ shown. Agrees shown told) (sym (refresh-shows target scene)) agrees
