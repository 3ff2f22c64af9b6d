-- Paintings of panels, as lines are replied to.
use Rattle.std.proofs.Common.{◌≡◌, inl, inr, ℕ, zero, suc, ◌+◌, ◌-◌, ◌≤◌, nat_eq, Bool, true, false, cond, List, [], ◌∷◌, leb, length, slice_get, slice_set, Option, Some, None, IfOk, Result, Ok, Err, refl, sym, ◌∙◌, ap, subst, arith}
use Rattle.std.proofs.lemmas.List.{length-set}
use Rattle.std.proofs.lemmas.Bool.Decides.{nat_tests}
use Rattle.std.proofs.lemmas.Option.{none-some}
use Rattle.chart_ports.specs.Count.{LAST, RoseBy, one_more}
use Rattle.panel_scenes.specs.InStep.{Start}
use Rattle.panel_scenes.specs.Numbered.{numbered, with_numbered}
use Rattle.panel_scenes.specs.Painting.{GivesPainting, IsPainting, Painting, given_up, given_up_at, is_failure, painting_among, painting_at, painting_in}
use Rattle.panel_scenes.specs.Scene.{SceneValue, failed_once, stale}
use Rattle.panel_scenes.specs.declared.fault.PaintingFault.{PaintingFault}
use Rattle.panel_scenes.specs.declared.fault.PaintingFault.TheVariants.{Refused, NoMemory}
use Rattle.panel_scenes.specs.declared.fault.PanelRefusal.{PanelRefusal}
use Rattle.panel_scenes.specs.declared.fault.PanelRefusal.TheVariants.{NoPanel, NothingBegun, Failed, Busy}
use Rattle.scene_sync.specs.Scene.{UnderWay}
use Rattle.scene_sync.specs.declared.progress.Progress.{Progress}
use Rattle.script_reader.specs.declared.reply.Reply.{Reply}
use Rattle.session_core.specs.declared.fault.EventFault.{EventFault}
use Rattle.session_core.specs.declared.fault.EventFault.TheVariants as of_event
use Rattle.session_core.specs.declared.refusal.LineRefusal.{LineRefusal}
use Rattle.session_core.specs.Model.{Model, with_scenes}
use Rattle.session_core.specs.Outside.{AreRisen}
use Rattle.session_core.specs.Panels.{paint_turn, painting_reply, refusal_of_panel}
use Rattle.session_core.specs.Refusal.{reply_of}
use Rattle.session_core.specs.Replied.{refusal_turn}
use Rattle.session_core.specs.Session.{GivesEvent}

-- ---- an item of a list that is put in its own place

same-place : {X : Type 0} (xs : List X) (i : ℕ) (x : X) → slice_get xs i ≡ Some x → slice_set xs i x ≡ xs
same-place [] i x is = refl
same-place (y ∷ xs) zero x is = let same : y ≡ x = cc in ap (λ z. z ∷ xs) (sym same)
same-place (y ∷ xs) (suc i) x is = ap (λ l. y ∷ l) (same-place xs i x is)

-- the place of an item that has a number
pub place-of : {X : Type 0} (number : ℕ) (xs : List X) (x : X) → numbered number xs ≡ Some x
    → slice_get xs (number - 1) ≡ Some x
place-of zero xs x is = absurd (none-some x is)
place-of {X} (suc i) xs x is =
    let e : nat_eq (suc i) 0 ≡ false = grind (arith, nat_tests) in
    let none : Option X = None in
    sym (ap (λ b. cond b none (slice_get xs (suc i - 1))) e) ∙ is

-- ---- what a painting leaves

module _ (k n : ℕ) (scenes : List SceneValue) where
  abbrev at : Bool → Option SceneValue → Painting (List SceneValue)
  at fails scene = painting_at k n scenes fails scene

  -- as many scenes as there were
  many-in : (fails : Bool) (scene : Option SceneValue) → length (at fails scene).after ≡ length scenes
  many-in fails None = refl
  many-in fails (Some scene) = length-set scenes (k - 1) _

  pub many-painted : (fails : Bool) → length (painting_among k n scenes fails).after ≡ length scenes
  many-painted fails = many-in fails (numbered k scenes)

  many-given-up : (scene : Option SceneValue) → length (given_up_at k scenes scene) ≡ length scenes
  many-given-up None = refl
  many-given-up (Some scene) = length-set scenes (k - 1) (stale scene)

  pub many-after : (r : Result Progress PaintingFault) (scenes' : List SceneValue)
      → GivesPainting r scenes' (painting_among k n scenes) (given_up k scenes) → length scenes' ≡ length scenes
  many-after (Ok progress) scenes' given = ap length (sym given.1) ∙ many-painted false
  many-after (Err (Refused refusal)) scenes' given = ap length (sym given.1) ∙ many-painted (is_failure refusal)
  many-after (Err NoMemory) scenes' given = ap length given ∙ many-given-up (numbered k scenes)

  -- a refusal without a failure leaves them all
  refused-in : (scene : SceneValue) (refresh : Option UnderWay) (refusal : PanelRefusal)
      → slice_get scenes (k - 1) ≡ Some scene
      → (painting_in k n false scene refresh).answer ≡ Err refusal
      → with_numbered k (painting_in k n false scene refresh).after scenes ≡ scenes
  refused-in scene None refusal is e = same-place scenes (k - 1) scene is
  refused-in scene (Some refresh) refusal is e = absurd cc

  refused-at : (scene : Option SceneValue) (refusal : PanelRefusal) → numbered k scenes ≡ scene
      → (at false scene).answer ≡ Err refusal
      → (at false scene).after ≡ scenes
  refused-at None refusal is e = refl
  refused-at (Some scene) refusal is e = refused-in scene scene.refresh refusal (place-of k scenes scene is) e

  pub refused-after : (refusal : PanelRefusal) → (painting_among k n scenes false).answer ≡ Err refusal
      → (painting_among k n scenes false).after ≡ scenes
  refused-after refusal e = refused-at (numbered k scenes) refusal refl e

  -- a failure names the panel
  failed-in : (scene : SceneValue) (refresh : Option UnderWay) (panel : ℕ)
      → (painting_in k n true scene refresh).answer ≡ Err (Failed panel) → panel ≡ k
  failed-in scene None panel e = absurd cc
  failed-in scene (Some refresh) panel e = cc

  failed-at : (scene : Option SceneValue) (panel : ℕ) → (at true scene).answer ≡ Err (Failed panel) → panel ≡ k
  failed-at None panel e = absurd cc
  failed-at (Some scene) panel e = failed-in scene scene.refresh panel e

  pub failed-is : (panel : ℕ) → (painting_among k n scenes true).answer ≡ Err (Failed panel) → panel ≡ k
  failed-is panel e = failed-at (numbered k scenes) panel e

  -- ---- the turn

  pub painting-turns : (model : Model) (fails : Bool) (answer : Result Progress PanelRefusal)
      (scenes' : List SceneValue) → model.scenes ≡ scenes
      → IsPainting answer scenes' (painting_among k n scenes fails)
      → ((paint_turn model k n fails).reply ≡ painting_reply k answer) ×
      ((paint_turn model k n fails).model ≡ with_scenes model scenes')
  painting-turns model fails answer scenes' is given = (
    ap (λ (s : List SceneValue). painting_reply k (painting_among k n s fails).answer) is
        ∙ ap (painting_reply k) given.0,
    ap (λ (s : List SceneValue). with_scenes model (painting_among k n s fails).after) is
        ∙ ap (with_scenes model) given.1,
  )

  -- a refusal without a failure leaves the model
  pub refused-turns : (model : Model) (refusal : PanelRefusal) (scenes' : List SceneValue) → model.scenes ≡ scenes
      → IsPainting (Err refusal) scenes' (painting_among k n scenes false)
      → (paint_turn model k n false ≡ refusal_turn model (refusal_of_panel refusal)) ×
      (with_scenes model scenes' ≡ model)
  refused-turns model refusal scenes' is given =
      let turn = painting-turns model false (Err refusal) scenes' is given in
      let same : with_scenes model scenes' ≡ model = ap (with_scenes model) (sym given.1 ∙ refused-after refusal given.0
      ∙ sym is) in
      ((λ i. record { reply = turn.0 i; command = None; model = (turn.1 ∙ same) i }), same)

-- ---- what is answered

-- a failure is that of the panel
pub failure-is : (k n : ℕ) (scenes : List SceneValue) (refusal : PanelRefusal) → is_failure refusal ≡ true
    → (painting_among k n scenes (is_failure refusal)).answer ≡ Err refusal → refusal ≡ Failed k
failure-is k n scenes (Failed panel) fails answer = ap Failed (failed-is k n scenes panel answer)
failure-is k n scenes (NoPanel panel) fails answer = absurd (let f : false ≡ true = fails in cc)
failure-is k n scenes NothingBegun fails answer = absurd (let f : false ≡ true = fails in cc)
failure-is k n scenes Busy fails answer = absurd (let f : false ≡ true = fails in cc)

-- the turn of a painting that is refused
module _ (k n : ℕ) (model : Model) (scenes scenes' : List SceneValue) (refusal : PanelRefusal)
    (is : model.scenes ≡ scenes)
    (given : IsPainting (Err refusal) scenes' (painting_among k n scenes (is_failure refusal))) where
  pub refused-gives : (r : Result Reply EventFault)
      → IfOk r (λ reply. (is_failure refusal ≡ true) × (reply ≡ reply_of (refusal_of_panel refusal)))
      → ((why : LineRefusal) → r ≡ Err (of_event.Refused why) → (is_failure refusal ≡ false) ×
      (why ≡ refusal_of_panel refusal))
      → GivesEvent r model (with_scenes model scenes') (paint_turn model k n (is_failure refusal))
  refused-gives (Ok reply) failed refused =
      let turn = painting-turns k n scenes model (is_failure refusal) (Err refusal) scenes' is given in (
        turn.0
            ∙ sym failed.1,
        turn.1,
      )
  refused-gives (Err (of_event.Refused why)) failed refused =
      let so = refused why refl in
      let turn = refused-turns k n scenes model refusal scenes' is
      (subst (λ (b : Bool). IsPainting (Err refusal) scenes' (painting_among k n scenes b)) so.0 given) in (
        ap (paint_turn model k n) so.0 ∙ turn.0 ∙ ap (refusal_turn model) (sym so.1),
        turn.1,
      )
  refused-gives (Err of_event.DeskFault) failed refused = refl
  refused-gives (Err of_event.NoMemory) failed refused = inl refl

-- ---- what panels have counted

-- one that has counted more has counted less
less-risen : (failures start faults : ℕ) → RoseBy (one_more failures) start faults → RoseBy failures start faults
less-risen failures start faults (inl rises) = by (leb (failures + 1) LAST) refl
  where
    by : (b : Bool) → leb (failures + 1) LAST ≡ b → RoseBy failures start faults
    by true e = let fits : failures + 1 ≤ LAST = grind (arith, nat_tests) in inl (omega arith)
    by false e = let over : LAST ≤ failures = grind (arith, nat_tests) in inr (omega arith)
less-risen failures start faults (inr last) = inr last

module _ {P : Type 0} (faults : P → ℕ) where
  abbrev Risen : List Start → List P → List SceneValue → Type 0
  Risen = AreRisen faults

  -- what had failed before is counted where one more failed, or none
  risen-set : (starts : List Start) (panels : List P) (scenes : List SceneValue) (i : ℕ) (z z' : SceneValue)
      → slice_get scenes i ≡ Some z
      → ((start count : ℕ) → RoseBy z'.failures start count → RoseBy z.failures start count)
      → Risen starts panels (slice_set scenes i z')
      → Risen starts panels scenes
  risen-set [] [] [] i z z' is less h = tt
  risen-set (s ∷ starts) (p ∷ panels) (y ∷ scenes) zero z z' is less h =
      let same : z ≡ y = cc in
      (subst (λ (it : SceneValue). RoseBy it.failures s.faults (faults p)) same (less s.faults (faults p) h.0), h.1)
  risen-set (s ∷ starts) (p ∷ panels) (y ∷ scenes) (suc i) z z' is less h =
      (h.0, risen-set starts panels scenes i z z' is less h.1)
  risen-set [] [] (y ∷ scenes) zero z z' is less h = absurd h
  risen-set [] [] (y ∷ scenes) (suc i) z z' is less h = absurd h
  risen-set [] (p ∷ panels) scenes i z z' is less h = absurd h
  risen-set (s ∷ starts) [] scenes i z z' is less h = absurd h
  risen-set (s ∷ starts) (p ∷ panels) [] i z z' is less h = absurd h

  module _ (k n : ℕ) (starts : List Start) (panels : List P) (scenes : List SceneValue) where
    given-up-at : (scene : Option SceneValue) → numbered k scenes ≡ scene
        → Risen starts panels (given_up_at k scenes scene) → Risen starts panels scenes
    given-up-at None is h = h
    given-up-at (Some scene) is h =
        risen-set starts panels scenes (k - 1) scene (stale scene) (place-of k scenes scene is)
        (λ start count rose. rose) h

    pub risen-given-up : Risen starts panels (given_up k scenes) → Risen starts panels scenes
    risen-given-up h = given-up-at (numbered k scenes) refl h

    failed-risen-in : (scene : SceneValue) (refresh : Option UnderWay) → numbered k scenes ≡ Some scene
        → Risen starts panels (with_numbered k (painting_in k n true scene refresh).after scenes)
        → Risen starts panels scenes
    failed-risen-in scene None is h =
        subst (Risen starts panels) (same-place scenes (k - 1) scene (place-of k scenes scene is)) h
    failed-risen-in scene (Some refresh) is h =
        risen-set starts panels scenes (k - 1) scene (failed_once scene) (place-of k scenes scene is)
        (λ start count rose. less-risen scene.failures start count rose) h

    failed-risen-at : (scene : Option SceneValue) → numbered k scenes ≡ scene
        → Risen starts panels (painting_at k n scenes true scene).after
        → Risen starts panels scenes
    failed-risen-at None is h = h
    failed-risen-at (Some scene) is h = failed-risen-in scene scene.refresh is h

    pub risen-failed : Risen starts panels (painting_among k n scenes true).after → Risen starts panels scenes
    risen-failed h = failed-risen-at (numbered k scenes) refl h
