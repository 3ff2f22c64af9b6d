-- Panels, as they go along with steps.
use Rattle.std.proofs.Common.{◌≡◌, ℕ, zero, suc, ◌-◌, nat_eq, Bool, true, false, List, [], ◌∷◌, ◌++◌, length, map, slice_get, refl, sym, ◌∙◌, subst, arith, inl}
use Rattle.std.specs.Prelude.{IsTrue, Option, Some, None, IfSome, Ok, Err, Vec, vec_len, if◌then◌else◌}
use Rattle.std.specs.declared.alloc.Global.{Global}
use Rattle.std.specs.declared.dyn_box.DynBox.{DynBox}
use Rattle.std.proofs.lemmas.List.{length-map}
use Rattle.chart_ports.specs.Count.{RoseBy}
use Rattle.panel_port.specs.Panel.{Scene as Blocks, summary_of}
use Rattle.panel_port.specs.declared.summary.Summary.{Summary}
use Rattle.panel_scenes.proofs.Places.{zip3-made}
use Rattle.panel_scenes.specs.InStep.{AreCounted, AreInStep, IsCounted, IsInStep, Start}
use Rattle.panel_scenes.specs.Numbered.{AllZip3, numbered}
use Rattle.panel_scenes.specs.Scene.{SceneValue, new_scene, new_scenes}
use Rattle.script_reader.specs.declared.event.Event.{Event}
use Rattle.script_reader.specs.declared.event.Event.TheVariants as asks
use Rattle.script_reader.specs.declared.reply.Reply.{Reply}
use Rattle.script_reader.specs.declared.reply.Reply.TheVariants as replies
use Rattle.session_core.specs.Model.{Model}
use Rattle.session_core.specs.Outside.{AreOfPanels, FromOutside, KeepsPanels, starts_after}
use Rattle.session_core.specs.Turn.{turn_of}
use Rattle.ecdis_cli.specs.Panels.{AreAsKnown, AreNumbersOf, HaveCountedFailures, KeepFailures, Members, NumbersAreTold, PanelValue, TellsNumbers, panel_value, starts_at, starts_behind, starts_left, values_of}
use Rattle.ecdis_cli.specs.Progress.{PanelsFollow}
use Rattle.ecdis_cli.specs.Script.{model_after}
use Rattle.ecdis_cli.specs.Step.{Step, step_of}
use Rattle.ecdis_cli.proofs.Lists.{model_after-append}

abbrev none : (X : Type 0) → Option X
none X = None

-- ---- three lists, place by place

-- the second list is made of another
zip3-to : {A B C D : Type 0} (R : A → D → C → Type 0) (f : B → D) (xs : List A) (ys : List B) (zs : List C)
    → AllZip3 (λ x y z. R x (f y) z) xs ys zs → AllZip3 R xs (map f ys) zs
zip3-to R f [] [] [] r = r
zip3-to R f [] [] (z ∷ zs) r = r
zip3-to R f [] (y ∷ ys) zs r = r
zip3-to R f (x ∷ xs) [] zs r = r
zip3-to R f (x ∷ xs) (y ∷ ys) [] r = r
zip3-to R f (x ∷ xs) (y ∷ ys) (z ∷ zs) r = (r.0, zip3-to R f xs ys zs r.1)

zip3-from : {A B C D : Type 0} (R : A → D → C → Type 0) (f : B → D) (xs : List A) (ys : List B) (zs : List C)
    → AllZip3 R xs (map f ys) zs → AllZip3 (λ x y z. R x (f y) z) xs ys zs
zip3-from R f [] [] [] r = r
zip3-from R f [] [] (z ∷ zs) r = r
zip3-from R f [] (y ∷ ys) zs r = r
zip3-from R f (x ∷ xs) [] zs r = r
zip3-from R f (x ∷ xs) (y ∷ ys) [] r = r
zip3-from R f (x ∷ xs) (y ∷ ys) (z ∷ zs) r = (r.0, zip3-from R f xs ys zs r.1)

zip3-weaker : {A B C : Type 0} (Q R : A → B → C → Type 0) → ((x : A) (y : B) (z : C) → Q x y z → R x y z)
    → (xs : List A) (ys : List B) (zs : List C) → AllZip3 Q xs ys zs → AllZip3 R xs ys zs
zip3-weaker Q R f [] [] [] q = q
zip3-weaker Q R f [] [] (z ∷ zs) q = q
zip3-weaker Q R f [] (y ∷ ys) zs q = q
zip3-weaker Q R f (x ∷ xs) [] zs q = q
zip3-weaker Q R f (x ∷ xs) (y ∷ ys) [] q = q
zip3-weaker Q R f (x ∷ xs) (y ∷ ys) (z ∷ zs) q = (f x y z q.0, zip3-weaker Q R f xs ys zs q.1)

-- what holds at a place of the first and the last list
zip3-at : {A B C : Type 0} (R : A → B → C → Type 0) (xs : List A) (ys : List B) (zs : List C) (place : ℕ)
    → AllZip3 R xs ys zs
    → IfSome (slice_get xs place) (λ x. IfSome (slice_get zs place) (λ z. (y : B) × (slice_get ys place ≡ Some y) × R x y z))
zip3-at R [] ys zs place r = tt
zip3-at R (x ∷ xs) [] zs place r = absurd r
zip3-at R (x ∷ xs) (y ∷ ys) [] place r = absurd r
zip3-at R (x ∷ xs) (y ∷ ys) (z ∷ zs) zero r = (y, refl, r.0)
zip3-at R (x ∷ xs) (y ∷ ys) (z ∷ zs) (suc place) r = zip3-at R xs ys zs place r.1

zip3-both : {A B C : Type 0} (Q R : A → B → C → Type 0) (xs : List A) (ys : List B) (zs : List C)
    → AllZip3 Q xs ys zs → AllZip3 R xs ys zs → AllZip3 (λ x y z. Q x y z × R x y z) xs ys zs
zip3-both Q R [] [] [] q r = tt
zip3-both Q R [] [] (z ∷ zs) q r = absurd q
zip3-both Q R [] (y ∷ ys) zs q r = absurd q
zip3-both Q R (x ∷ xs) [] zs q r = absurd q
zip3-both Q R (x ∷ xs) (y ∷ ys) [] q r = absurd q
zip3-both Q R (x ∷ xs) (y ∷ ys) (z ∷ zs) q r = ((q.0, r.0), zip3-both Q R xs ys zs q.1 r.1)

-- so it does at a number
zip3-numbered : {A B C : Type 0} (R : A → B → C → Type 0) (xs : List A) (ys : List B) (zs : List C) (k : ℕ)
    → AllZip3 R xs ys zs
    → IfSome (numbered k xs) (λ x. IfSome (numbered k zs) (λ z. (y : B) × (numbered k ys ≡ Some y) × R x y z))
zip3-numbered {A = A} {B = B} {C = C} R xs ys zs k r =
    elim (nat_eq k 0) as (λ b. IfSome (if b then none A else slice_get xs (k - 1))
    (λ x. IfSome (if b then none C else slice_get zs (k - 1))
    (λ z. (y : B) × ((if b then none B else slice_get ys (k - 1)) ≡ Some y) × R x y z))) [
      | true ↦ tt
      | false ↦ zip3-at R xs ys zs (k - 1) r
    ]

-- ---- an item, where there is one

some-both : {X : Type 0} (P Q : X → Type 0) (o : Option X) → IfSome o P → IfSome o Q → IfSome o (λ x. P x × Q x)
some-both P Q None p q = tt
some-both P Q (Some x) p q = (p, q)

some-map : {X : Type 0} (P Q : X → Type 0) → ((x : X) → P x → Q x) → (o : Option X) → IfSome o P → IfSome o Q
some-map P Q f None p = tt
some-map P Q f (Some x) p = f x p

made-at : {X Y : Type 0} (Q : Y → Type 0) (f : X → Y) (xs : List X) (place : ℕ)
    → IfSome (slice_get xs place) (λ x. Q (f x)) → IfSome (slice_get (map f xs) place) Q
made-at Q f [] place q = tt
made-at Q f (x ∷ xs) zero q = q
made-at Q f (x ∷ xs) (suc place) q = made-at Q f xs place q

-- the item of a number of a list that is made of another
made-numbered : {X Y : Type 0} (Q : Y → Type 0) (f : X → Y) (xs : List X) (k : ℕ)
    → IfSome (numbered k xs) (λ x. Q (f x)) → IfSome (numbered k (map f xs)) Q
made-numbered {X = X} {Y = Y} Q f xs k =
    elim (nat_eq k 0) as (λ b. IfSome (if b then none X else slice_get xs (k - 1)) (λ x. Q (f x))
    → IfSome (if b then none Y else slice_get (map f xs) (k - 1)) Q) [
      | true ↦ λ q. tt
      | false ↦ λ q. made-at Q f xs (k - 1) q
    ]

-- ---- the beginning

abbrev start_of : PanelValue → Start
start_of panel = record {
  tells = panel.tells;
  faults = panel.faults;
  calls = panel.calls;
  numbers = panel.numbers;
}

abbrev AreKnownOf : Start → PanelValue → SceneValue → Type 0
AreKnownOf start panel kept =
    IsInStep start panel.tells panel.scene panel.faults kept
    × IsCounted start panel.faults panel.calls panel.numbers kept

started : (panel : PanelValue) → AreKnownOf (start_of panel) panel new_scene
started panel = (
  record { same = refl; agrees = λ t. tt; rose = inl (omega arith) },
  record { counted = λ steady. refl; first = λ none_failed none_made. refl },
)

-- nothing is known of panels then
pub known-new : (panels : List PanelValue) (count : ℕ) → count ≡ length panels
    → AreAsKnown (starts_at panels) panels (new_scenes count)
known-new panels count is =
    subst (λ (n : ℕ). AreAsKnown (starts_at panels) panels (new_scenes n)) (sym is) (record {
      in_step = zip3-made (λ start panel kept. IsInStep start panel.tells panel.scene panel.faults kept)
          start_of new_scene (λ panel. (started panel).0) panels;
      counted = zip3-made (λ start panel kept. IsCounted start panel.faults panel.calls panel.numbers kept)
          start_of new_scene (λ panel. (started panel).1) panels;
    })

-- there are as many values as panels
pub values-many : {X : Type 0} {V : X → Type 0} (members : Members X V) (panels : Vec (DynBox X Global V) Global)
    → vec_len panels ≡ length (values_of members panels.items)
values-many members panels = panels.ok.0 ∙ sym (length-map panels.items (panel_value members))

pub known-begun : {X : Type 0} {V : X → Type 0} (members : Members X V) (panels : Vec (DynBox X Global V) Global)
    (scenes : List SceneValue) → scenes ≡ new_scenes (vec_len panels)
    → AreAsKnown (starts_at (values_of members panels.items)) (values_of members panels.items) scenes
known-begun members panels scenes is =
    subst (λ (l : List SceneValue). AreAsKnown (starts_at (values_of members panels.items)) (values_of members panels.items) l)
    (sym is) (known-new (values_of members panels.items) (vec_len panels) (values-many members panels))

-- ---- numbers that are told

number-of : (start : Start) (panel : PanelValue) (kept : SceneValue) (told : Summary) → AreKnownOf start panel kept
    → told ≡ panel.numbers → IfSome panel.scene (λ blocks. told ≡ summary_of blocks) → AreNumbersOf start kept told
number-of start panel kept told known is shown = record {
  shown = λ t. some-map (λ blocks. panel.scene ≡ Some blocks) (λ blocks. told ≡ summary_of blocks)
      (λ blocks there. subst (λ (o : Option Blocks). IfSome o (λ b. told ≡ summary_of b)) there shown)
      kept.shown (known.0.agrees (subst IsTrue (sym known.0.same) t));
  first = λ none_failed none_made. is ∙ known.1.first none_failed none_made;
}

abbrev AsksPanel : ℕ → List PanelValue → Summary → Type 0
AsksPanel k panels told =
    IfSome (numbered k panels) (λ panel. (told ≡ panel.numbers) × IfSome panel.scene (λ blocks. told ≡ summary_of blocks))

numbers-told : (starts : List Start) (panels : List PanelValue) (scenes : List SceneValue) (k : ℕ) (told : Summary)
    → AreAsKnown starts panels scenes → AsksPanel k panels told
    → IfSome (numbered k starts) (λ start. IfSome (numbered k scenes) (λ kept. AreNumbersOf start kept told))
numbers-told starts panels scenes k told known asked =
    let Found : Start → SceneValue → Type 0
    = λ start kept. (panel : PanelValue) × (numbered k panels ≡ Some panel) × AreKnownOf start panel kept in
    some-map (λ start. IfSome (numbered k scenes) (λ kept. Found start kept))
    (λ start. IfSome (numbered k scenes) (λ kept. AreNumbersOf start kept told))
    (λ start. some-map (λ kept. Found start kept) (λ kept. AreNumbersOf start kept told)
    (λ kept found.
    let here : (told ≡ found.0.numbers) × IfSome found.0.scene (λ blocks. told ≡ summary_of blocks)
    = subst (λ (o : Option PanelValue).
    IfSome o (λ panel. (told ≡ panel.numbers) × IfSome panel.scene (λ blocks. told ≡ summary_of blocks))) found.1 asked in
    number-of start found.0 kept told found.2 here.0 here.1)
    (numbered k scenes))
    (numbered k starts)
    (zip3-numbered AreKnownOf starts panels scenes k
    (zip3-both (λ start panel kept. IsInStep start panel.tells panel.scene panel.faults kept)
    (λ start panel kept. IsCounted start panel.faults panel.calls panel.numbers kept)
    starts panels scenes known.in_step known.counted))

-- where a reply tells numbers, they are those of the panel that was asked
pub reply-tells : (starts : List Start) (panels : List PanelValue) (scenes : List SceneValue) (reply : Reply)
    → AreAsKnown starts panels scenes
    → ((k blocks items : ℕ) → reply ≡ replies.Panel k blocks items
    → AsksPanel k panels (record { blocks = blocks; items = items }))
    → TellsNumbers starts scenes (Some reply)
reply-tells starts panels scenes (replies.Panel k blocks items) known asked =
    numbers-told starts panels scenes k (record { blocks = blocks; items = items }) known (asked k blocks items refl)
reply-tells starts panels scenes other known asked = tt

-- ---- failures

-- panels that are as is known have counted their failures
pub known-counted : (starts : List Start) (panels : List PanelValue) (scenes : List SceneValue)
    → AreAsKnown starts panels scenes → HaveCountedFailures starts panels scenes
known-counted starts panels scenes known =
    zip3-weaker (λ start panel kept. IsInStep start panel.tells panel.scene panel.faults kept)
    (λ start panel kept. RoseBy kept.failures start.faults panel.faults)
    (λ start panel kept step. step.rose) starts panels scenes known.in_step

-- ---- steps

pub starts-append : (starts : List Start) (xs ys : List Step)
    → starts_left starts (xs ++ ys) ≡ starts_left (starts_left starts xs) ys
starts-append starts [] ys = refl
starts-append starts (x ∷ xs) ys = starts-append (starts_behind starts x.reply) xs ys

pub told-append : (starts : List Start) (model : Model) (xs ys : List Step) → NumbersAreTold starts model xs
    → NumbersAreTold (starts_left starts xs) (model_after model xs) ys → NumbersAreTold starts model (xs ++ ys)
told-append starts model [] ys told more = more
told-append starts model (x ∷ xs) ys told more =
    (told.0, told-append (starts_behind starts x.reply) x.model xs ys told.1 more)

-- no step was taken
pub follow-none : (model : Model) (panels : List PanelValue) → PanelsFollow model panels [] panels
follow-none model panels = record { told = λ starts known. tt; known = λ starts known. known }

-- steps after steps
pub follow-then : (model mid : Model) (a b c : List PanelValue) (xs ys : List Step) → mid ≡ model_after model xs
    → PanelsFollow model a xs b → PanelsFollow mid b ys c → PanelsFollow model a (xs ++ ys) c
follow-then model mid a b c xs ys is first second =
    let next : PanelsFollow (model_after model xs) b ys c = subst (λ (m : Model). PanelsFollow m b ys c) is second in record {
      told = λ starts known. told-append starts model xs ys (first.told starts known)
          (next.told (starts_left starts xs) (first.known starts known));
      known = λ starts known. subst (λ (s : List Start). AreAsKnown s c (model_after model (xs ++ ys)).scenes)
          (sym (starts-append starts xs ys))
          (subst (λ (m : Model). AreAsKnown (starts_left (starts_left starts xs) ys) c m.scenes)
          (sym (model_after-append model xs ys)) (next.known (starts_left starts xs) (first.known starts known)));
    }

-- a step at which nothing is told of panels and none is touched
pub follow-quiet : (model : Model) (panels : List PanelValue) (step other : Step) → step ≡ other
    → ((starts : List Start) → TellsNumbers starts model.scenes other.reply)
    → ((starts : List Start) → starts ≡ starts_behind starts other.reply) → other.model ≡ model
    → PanelsFollow model panels (step ∷ []) panels
follow-quiet model panels step other is told left same =
    subst (λ (s : Step). PanelsFollow model panels (s ∷ []) panels) (sym is) (record {
      told = λ starts known. (told starts, tt);
      known = λ starts known. subst (λ (s : List Start). AreAsKnown s panels other.model.scenes) (left starts)
          (subst (λ (m : Model). AreAsKnown starts panels m.scenes) (sym same) known);
    })

-- ---- a turn

-- a reply tells the numbers of a panel only where that is asked, and then those that were told
abbrev pub TellsPanels : Type 0
TellsPanels = (outside : FromOutside) (model : Model) (event : Event) (k blocks items : ℕ)
    → (turn_of outside model event).reply ≡ replies.Panel k blocks items
    → (event ≡ asks.Panel k) × (outside.numbers ≡ record { blocks = blocks; items = items })

module _ {P : Type 0} (tells : P → Bool) (scene : P → Option Blocks) (faults calls : P → ℕ) (numbers : P → Summary) where
  abbrev value : P → PanelValue
  value panel = record {
    tells = tells panel;
    scene = scene panel;
    faults = faults panel;
    calls = calls panel;
    numbers = numbers panel;
  }

  known-to : (starts : List Start) (panels : List P) (scenes : List SceneValue)
      → AreInStep tells scene faults starts panels scenes → AreCounted faults calls numbers starts panels scenes
      → AreAsKnown starts (map value panels) scenes
  known-to starts panels scenes step count = record {
    in_step = zip3-to (λ start panel kept. IsInStep start panel.tells panel.scene panel.faults kept) value
        starts panels scenes step;
    counted = zip3-to (λ start panel kept. IsCounted start panel.faults panel.calls panel.numbers kept) value
        starts panels scenes count;
  }

  in_step-from : (starts : List Start) (panels : List P) (scenes : List SceneValue)
      → AreAsKnown starts (map value panels) scenes → AreInStep tells scene faults starts panels scenes
  in_step-from starts panels scenes known =
      zip3-from (λ start panel kept. IsInStep start panel.tells panel.scene panel.faults kept) value
      starts panels scenes known.in_step

  counted-from : (starts : List Start) (panels : List P) (scenes : List SceneValue)
      → AreAsKnown starts (map value panels) scenes → AreCounted faults calls numbers starts panels scenes
  counted-from starts panels scenes known =
      zip3-from (λ start panel kept. IsCounted start panel.faults panel.calls panel.numbers kept) value
      starts panels scenes known.counted

  -- it isn't told
  pub keep-turn : {E : Type 0} (fault : E) (event : Event) (before now : List P) (scenes scenes' : List SceneValue)
      → KeepsPanels tells scene faults calls numbers event (Err fault) before now scenes scenes'
      → KeepFailures scenes (map value before) (map value now)
  keep-turn fault event before now scenes scenes' keeps = λ starts known.
      zip3-to (λ start panel kept. RoseBy kept.failures start.faults panel.faults) value starts now scenes
      (keeps.risen starts (in_step-from starts before scenes known))

  -- it is told
  pub follow-turn : {E : Type 0} → TellsPanels → (outside : FromOutside) (event : Event) (most : ℕ) (reply : Reply)
      → (before now : List P) (model model' : Model)
      → (turn_of outside model event).reply ≡ reply → (turn_of outside model event).model ≡ model'
      → AreOfPanels scene faults numbers event before now outside
      → KeepsPanels {E = E} tells scene faults calls numbers event (Ok reply) before now model.scenes model'.scenes
      → PanelsFollow model (map value before) (step_of most (turn_of outside model event) ∷ []) (map value now)
  follow-turn law outside event most reply before now model model' replied reached asked keeps = record {
    told = λ starts known. (
      reply-tells starts (map value before) model.scenes (turn_of outside model event).reply known
          (λ k blocks items is. let told = law outside model event k blocks items is in
          subst (AsksPanel k (map value before)) told.1
          (made-numbered (λ panel. (outside.numbers ≡ panel.numbers)
          × IfSome panel.scene (λ blocks. outside.numbers ≡ summary_of blocks)) value before k
          (some-both (λ panel. outside.numbers ≡ numbers panel)
          (λ panel. IfSome (scene panel) (λ blocks. outside.numbers ≡ summary_of blocks))
          (numbered k before) (asked.asked k told.0) (asked.shown k told.0)))),
      tt,
    );
    known = λ starts known.
        let step = in_step-from starts before model.scenes known in
        subst (λ (r : Reply). AreAsKnown (starts_after r starts) (map value now)
        (turn_of outside model event).model.scenes) (sym replied)
        (subst (λ (m : Model). AreAsKnown (starts_after reply starts) (map value now) m.scenes) (sym reached)
        (known-to (starts_after reply starts) now model'.scenes (keeps.in_step starts step)
        (keeps.counted starts step (counted-from starts before model.scenes known))));
  }

-- ---- a turn over panels in boxes

abbrev pub AreOfBoxes : {X : Type 0} {V : X → Type 0} → Members X V → Event → List (DynBox X Global V)
    → List (DynBox X Global V) → FromOutside → Type 0
AreOfBoxes members =
    AreOfPanels (λ p. (members p).scene p.value) (λ p. (members p).faults p.value) (λ p. (members p).numbers p.value)

module _ {X : Type 0} {V : X → Type 0} (members : Members X V) where
  pub keep-boxes : {E : Type 0} (fault : E) (event : Event) (before now : List (DynBox X Global V))
      → (scenes scenes' : List SceneValue)
      → KeepsPanels (λ p. (members p).tells p.value) (λ p. (members p).scene p.value) (λ p. (members p).faults p.value)
      (λ p. (members p).calls p.value) (λ p. (members p).numbers p.value) event (Err fault) before now scenes scenes'
      → KeepFailures scenes (values_of members before) (values_of members now)
  keep-boxes fault event before now scenes scenes' keeps =
      keep-turn (λ p. (members p).tells p.value) (λ p. (members p).scene p.value) (λ p. (members p).faults p.value)
      (λ p. (members p).calls p.value) (λ p. (members p).numbers p.value) fault event before now scenes scenes' keeps

  pub follow-boxes : {E : Type 0} → TellsPanels → (outside : FromOutside) (event : Event) (most : ℕ) (reply : Reply)
      → (before now : List (DynBox X Global V)) (model model' : Model)
      → (turn_of outside model event).reply ≡ reply → (turn_of outside model event).model ≡ model'
      → AreOfBoxes members event before now outside
      → KeepsPanels {E = E} (λ p. (members p).tells p.value) (λ p. (members p).scene p.value)
      (λ p. (members p).faults p.value) (λ p. (members p).calls p.value) (λ p. (members p).numbers p.value) event (Ok reply)
      before now model.scenes model'.scenes
      → PanelsFollow model (values_of members before) (step_of most (turn_of outside model event) ∷ [])
      (values_of members now)
  follow-boxes {E = E} law outside event most reply before now model model' replied reached asked keeps =
      follow-turn (λ p. (members p).tells p.value) (λ p. (members p).scene p.value) (λ p. (members p).faults p.value)
      (λ p. (members p).calls p.value) (λ p. (members p).numbers p.value) {E = E} law outside event most reply before now
      model model' replied reached asked keeps
