-- Panels in a turn.
use Rattle.std.proofs.Common.{◌≡◌, ℕ, zero, suc, ◌-◌, nat_eq, Bool, true, false, cond, List, [], ◌∷◌, length, slice_get, Option, Some, None, IfOk, IfSome, Result, Ok, Err, refl, sym, ◌∙◌, ap, subst, arith}
use Rattle.std.specs.Prelude.{IsErrAnd, option_map}
use Rattle.std.proofs.lemmas.Option.{none-some}
use Rattle.std.proofs.lemmas.Bool.{true≢false}
use Rattle.chart_ports.specs.Count.{Rose}
use Rattle.panel_port.specs.Panel.{Scene as Blocks, summary_of}
use Rattle.panel_port.specs.declared.summary.Summary.{Summary}
use Rattle.panel_scenes.specs.InStep.{AreCounted, AreInStep, Start}
use Rattle.panel_scenes.specs.Numbered.{IsOfNumbered, SameOthers, numbered, with_numbered, without_numbered}
use Rattle.panel_scenes.specs.Painting.{IsPainting, given_up, is_failure, painting_among, panel_refusal, refresh_refusal, summary_at}
use Rattle.panel_scenes.specs.Scene.{SceneValue, refreshing}
use Rattle.panel_scenes.specs.declared.fault.PanelRefusal.{PanelRefusal}
use Rattle.panel_scenes.specs.declared.fault.PanelRefusal.TheVariants.{NoPanel}
use Rattle.script_reader.specs.declared.event.Event.{Event}
use Rattle.script_reader.specs.declared.event.Event.TheVariants as asks
use Rattle.script_reader.specs.declared.reply.Reply.{Reply}
use Rattle.script_reader.specs.declared.reply.Reply.TheVariants as replies
use Rattle.session_core.specs.declared.fault.EventFault.{EventFault}
use Rattle.session_core.specs.declared.fault.EventFault.TheVariants.{NoMemory, Refused}
use Rattle.session_core.specs.declared.fault.TurnFault.{TurnFault}
use Rattle.session_core.specs.declared.refusal.LineRefusal.{LineRefusal}
use Rattle.session_core.specs.Model.{Model}
use Rattle.session_core.specs.Outside.{AreOfPanels, AreRisen, FromOutside, KeepsOtherPanels, KeepsPanels, starts_after, without_panel}
use Rattle.session_core.specs.Panels.{IsOfPanel, panel_turn, refusal_of_panel}
use Rattle.session_core.specs.Refusal.{reply_of}
use Rattle.session_core.specs.Replied.{refusal_turn}
use Rattle.session_core.specs.Session.{GivesEvent}
use Rattle.session_core.specs.Turn.{turn_of}
use Rattle.session_core.specs.Fetch.{Fetches}
use Rattle.session_core.proofs.Fetching.{fetching, passed-is}
use Rattle.session_core.proofs.Painting.{risen-failed, risen-given-up}
use Rattle.session_core.proofs.Replying.{starts-stay}

abbrev no : (X : Type 0) → Option X
no X = None

-- ---- numbers of panels and of what is known of them

-- where there is none of the one, there is none of the other
get-none : {X Y : Type 0} (xs : List X) (ys : List Y) (i : ℕ) → length xs ≡ length ys → slice_get xs i ≡ None
    → slice_get ys i ≡ None
get-none [] [] i many none = refl
get-none [] (y ∷ ys) i many none = absurd (omega (arith, many))
get-none (x ∷ xs) [] i many none = absurd (omega (arith, many))
get-none (x ∷ xs) (y ∷ ys) zero many none = absurd (none-some x (sym none))
get-none (x ∷ xs) (y ∷ ys) (suc i) many none = get-none xs ys i (omega (arith, many)) none

pub none-too : {X Y : Type 0} (k : ℕ) (xs : List X) (ys : List Y) → length xs ≡ length ys → numbered k xs ≡ None
    → numbered k ys ≡ None
none-too {X} {Y} k xs ys many none = by (nat_eq k 0) none
  where
    by : (b : Bool) → cond b (no X) (slice_get xs (k - 1)) ≡ None → cond b (no Y) (slice_get ys (k - 1)) ≡ None
    by true e = refl
    by false e = get-none xs ys (k - 1) many e

module _ {P : Type 0} (numbers : P → Summary) (k : ℕ) where
  -- there is a panel whose numbers are told
  pub told-of : (o : Option P) (shown : Summary) → Ok shown ≡ summary_at k (option_map numbers o)
      → IfSome o (λ panel. shown ≡ numbers panel)
  told-of None shown e = tt
  told-of (Some panel) shown e = cc

  pub told-there : (o : Option P) (shown : Summary) → Ok shown ≡ summary_at k (option_map numbers o) → o ≡ None → ⊥
  told-there o shown e none =
      let f : Ok shown ≡ Err (NoPanel k) = e ∙ ap (λ (p : Option P). summary_at k (option_map numbers p)) none in cc

  -- there is none where they are refused
  pub untold-none : (o : Option P) (refusal : PanelRefusal) → Err refusal ≡ summary_at k (option_map numbers o)
      → (o ≡ None) × (refusal ≡ NoPanel k)
  untold-none None refusal e = (refl, cc)
  untold-none (Some panel) refusal e =
      absurd (let f : ◌≡◌ {A = Result Summary PanelRefusal} (Err refusal) (Ok (numbers panel)) = e in cc)

-- the turn of a panel whose numbers are told
pub told-turn : (model : Model) (k : ℕ) (shown : Summary) (scene : Option SceneValue) → (scene ≡ None → ⊥)
    → ((panel_turn model k shown scene).reply ≡ replies.Panel k shown.blocks shown.items) ×
    ((panel_turn model k shown scene).model ≡ model)
told-turn model k shown None there = absurd (there refl)
told-turn model k shown (Some scene) there = (refl, refl)

-- the numbers of a panel that there is none of
abbrev pub no-numbers : Summary
no-numbers = record { blocks = 0; items = 0 }

-- the refusal of the numbers of a panel
pub untold-turn : (model : Model) (k : ℕ) (r : Result Reply EventFault) (refusal : PanelRefusal)
    (scene : Option SceneValue)
    → IsErrAnd r (λ passed. passed ≡ Refused (refusal_of_panel refusal)) → refusal ≡ NoPanel k → scene ≡ None
    → GivesEvent r model model (panel_turn model k no-numbers scene)
untold-turn model k r refusal scene passed is none =
    subst (λ (o : Option SceneValue). GivesEvent r model model (panel_turn model k no-numbers o)) (sym none)
    (subst (λ (s : Result Reply EventFault). GivesEvent s model model (panel_turn model k no-numbers None))
    (sym (passed-is r (Refused (refusal_of_panel refusal)) passed))
    (ap (λ (why : PanelRefusal). refusal_turn model (refusal_of_panel why)) (sym is), refl))

summed-stay : (model : Model) (k : ℕ) (shown : Summary) (scene : Option SceneValue) (starts : List Start)
    → starts_after (panel_turn model k shown scene).reply starts ≡ starts
summed-stay model k shown None starts = refl
summed-stay model k shown (Some scene) starts = refl

pub none-if : {P : Type 0} (o : Option P) (Q : P → Type 0) → o ≡ None → IfSome o Q
none-if {P} o Q none = subst (λ (p : Option P). IfSome p Q) (sym none) tt

-- a panel that isn't there is left out by nothing
pub without-none : {P : Type 0} (k : ℕ) (panels : List P) → numbered k panels ≡ None
    → panels ≡ without_panel k panels (numbered k panels)
without-none k panels none = sym (ap (without_panel k panels) none)

pub refused-none : {X : Type 0} (k : ℕ) (o : Option X) (refusal : PanelRefusal) → Some refusal ≡ panel_refusal k o
    → o ≡ None
refused-none k None refusal e = refl
refused-none k (Some x) refusal e = absurd (none-some refusal (sym e))

-- and one that is there is left out
without-some : {P : Type 0} (k : ℕ) (panels : List P) (o : Option P) → (o ≡ None → ⊥)
    → without_numbered k panels ≡ without_panel k panels o
without-some k panels None there = absurd (there refl)
without-some k panels (Some panel) there = refl

pub without-there : {X P : Type 0} (k : ℕ) (panels : List P) (scenes : List X) → length panels ≡ length scenes
    → None ≡ panel_refusal k (numbered k scenes)
    → without_numbered k panels ≡ without_panel k panels (numbered k panels)
without-there k panels scenes many may =
    without-some k panels (numbered k panels) (λ none.
    let missing : panel_refusal k (numbered k scenes) ≡ Some (NoPanel k) = ap (panel_refusal k)
    (none-too k panels scenes many none) in
    none-some (NoPanel k) (may ∙ missing))

-- ---- what comes from outside

abbrev pub painting : Fetches → Bool → FromOutside
painting fetches failed = record { fetches = fetches; painting_failed = failed; numbers = no-numbers }

abbrev pub telling : Fetches → Summary → FromOutside
telling fetches told = record { fetches = fetches; painting_failed = false; numbers = told }

-- ---- lines that aren't about panels

others-kept : {P : Type 0} (event : Event) (panels : List P) → ¬ IsOfPanel event → KeepsOtherPanels event panels panels
others-kept (asks.Paint k n) panels other = absurd (other tt)
others-kept (asks.ClosePanel k) panels other = absurd (other tt)
others-kept _ panels other = refl

-- no panel is asked for anything
pub none-asked : {P : Type 0} (scene : P → Option Blocks) (faults : P → ℕ) (numbers : P → Summary) (event : Event)
    (before now : List P) (outside : FromOutside)
    → ¬ IsOfPanel event → AreOfPanels scene faults numbers event before now outside
none-asked scene faults numbers event before now outside other = record {
  asked = λ k is. absurd (other (subst IsOfPanel (sym is) tt));
  shown = λ k is. absurd (other (subst IsOfPanel (sym is) tt));
  failed = λ k n is. absurd (other (subst IsOfPanel (sym is) tt));
}

-- no panel is asked for its numbers, or painted
pub unasked-panel : {P : Type 0} (scene : P → Option Blocks) (faults : P → ℕ) (numbers : P → Summary) (event : Event)
    (before now : List P) (fetches : Fetches)
    → ((k : ℕ) → event ≡ asks.Panel k → ⊥) → AreOfPanels scene faults numbers event before now (fetching fetches)
unasked-panel scene faults numbers event before now fetches other = record {
  asked = λ k is. absurd (other k is);
  shown = λ k is. absurd (other k is);
  failed = λ k n is fails. absurd (true≢false (sym fails));
}

-- one is painted, and fails or not
pub painted-panel : {P : Type 0} (scene : P → Option Blocks) (faults : P → ℕ) (numbers : P → Summary) (event : Event)
    (before now : List P) (fetches : Fetches)
    → (k n : ℕ) (failed : Bool) → event ≡ asks.Paint k n
    → (failed ≡ true → IsOfNumbered k (λ panel panel'. Rose (faults panel) (faults panel')) before now)
    → AreOfPanels scene faults numbers event before now (painting fetches failed)
painted-panel scene faults numbers event before now fetches k n failed is rose = record {
  asked = λ other asked. absurd (let f : asks.Paint k n ≡ asks.Panel other = sym is ∙ asked in cc);
  shown = λ other asked. absurd (let f : asks.Paint k n ≡ asks.Panel other = sym is ∙ asked in cc);
  failed = λ other calls asked fails.
      let same : k ≡ other = let f : asks.Paint k n ≡ asks.Paint other calls = sym is ∙ asked in cc in
      subst (λ (number : ℕ). IsOfNumbered number (λ panel panel'. Rose (faults panel) (faults panel')) before now) same
      (rose fails);
}

-- one is asked for its numbers
pub asked-panel : {P : Type 0} (scene : P → Option Blocks) (faults : P → ℕ) (numbers : P → Summary) (event : Event)
    (before now : List P) (fetches : Fetches)
    → (k : ℕ) (told : Summary) → event ≡ asks.Panel k → IfSome (numbered k before) (λ panel. told ≡ numbers panel)
    → IfSome (numbered k before) (λ panel. IfSome (scene panel) (λ blocks. told ≡ summary_of blocks))
    → AreOfPanels scene faults numbers event before now (telling fetches told)
asked-panel scene faults numbers event before now fetches k told is asked shown = record {
  asked =
      λ other same. subst (λ (number : ℕ). IfSome (numbered number before) (λ panel. told ≡ numbers panel))
      (number-is other same) asked;
  shown = λ other same.
      subst (λ (number : ℕ). IfSome (numbered number before)
      (λ panel. IfSome (scene panel) (λ blocks. told ≡ summary_of blocks)))
      (number-is other same) shown;
  failed = λ other calls same fails. absurd (true≢false (sym fails));
}
  where
    number-is : (other : ℕ) → event ≡ asks.Panel other → k ≡ other
    number-is other same = let f : asks.Panel k ≡ asks.Panel other = sym is ∙ same in cc

-- so is one of a slice
pub slice-asked : {P : Type 0} (scene : P → Option Blocks) (faults : P → ℕ) (numbers : P → Summary) (event : Event)
    (panels slice : List P) (fetches : Fetches)
    → (k : ℕ) (told : Summary) → event ≡ asks.Panel k → slice ≡ panels
    → IfSome (numbered k slice) (λ panel. told ≡ numbers panel)
    → IfSome (numbered k slice) (λ panel. IfSome (scene panel) (λ blocks. told ≡ summary_of blocks))
    → AreOfPanels scene faults numbers event panels panels (telling fetches told)
slice-asked {P = P} scene faults numbers event panels slice fetches k told is same asked shown =
    asked-panel scene faults numbers event panels panels fetches k told is
    (subst (λ (l : List P). IfSome (numbered k l) (λ panel. told ≡ numbers panel)) same asked)
    (subst (λ (l : List P). IfSome (numbered k l) (λ panel. IfSome (scene panel) (λ blocks. told ≡ summary_of blocks)))
    same shown)

module _ {P : Type 0} (tells : P → Bool) (scene : P → Option Blocks) (faults calls : P → ℕ) (numbers : P → Summary)
  where
    abbrev InStep : List Start → List P → List SceneValue → Type 0
    InStep = AreInStep tells scene faults

    abbrev Counted : List Start → List P → List SceneValue → Type 0
    Counted = AreCounted faults calls numbers

    -- panels in step have counted each painting that failed
    pub in-step-risen : (starts : List Start) (panels : List P) (scenes : List SceneValue) → InStep starts panels scenes
        → AreRisen faults starts panels scenes
    in-step-risen [] [] [] so = tt
    in-step-risen (start ∷ starts) (panel ∷ panels) (kept ∷ scenes) so =
        (so.0.rose, in-step-risen starts panels scenes so.1)
    in-step-risen [] [] (kept ∷ scenes) so = absurd so
    in-step-risen [] (panel ∷ panels) scenes so = absurd so
    in-step-risen (start ∷ starts) [] scenes so = absurd so
    in-step-risen (start ∷ starts) (panel ∷ panels) [] so = absurd so

    -- panels and what is known of them are as they were, and none is closed
    pub untouched-panels : {E : Type 0} (event : Event) (result : Result Reply E) (panels : List P)
        (scenes scenes' : List SceneValue)
        → KeepsOtherPanels event panels panels → scenes' ≡ scenes
        → ((reply : Reply) → result ≡ Ok reply → (starts : List Start) → starts_after reply starts ≡ starts)
        → KeepsPanels tells scene faults calls numbers event result panels panels scenes scenes'
    untouched-panels event (Ok reply) panels scenes scenes' others known stay = record {
      others = others;
      in_step = λ starts so.
          subst (λ (l : List Start). InStep l panels scenes') (sym (stay reply refl starts))
          (subst (InStep starts panels) (sym known) so);
      counted = λ starts so counted.
          subst (λ (l : List Start). Counted l panels scenes') (sym (stay reply refl starts))
          (subst (Counted starts panels) (sym known) counted);
      risen = tt;
    }
    untouched-panels event (Err fault) panels scenes scenes' others known stay = record {
      others = others;
      in_step = tt;
      counted = tt;
      risen = λ starts so. in-step-risen starts panels scenes so;
    }

    pub panels-stay : (outside : FromOutside) (event : Event) (result : Result Reply EventFault) (before now : Model)
        (panels : List P)
        → ¬ IsOfPanel event → now.scenes ≡ before.scenes → GivesEvent result before now (turn_of outside before event)
        → KeepsPanels tells scene faults calls numbers event result panels panels before.scenes now.scenes
    panels-stay outside event result before now panels other known given =
        untouched-panels event result panels before.scenes now.scenes (others-kept event panels other) known
        (λ reply is starts.
        let same : GivesEvent (Ok reply) before now (turn_of outside before event)
        = subst (λ (r : Result Reply EventFault). GivesEvent r before now (turn_of outside before event)) is given in
        ap (λ (r : Reply). starts_after r starts) (sym same.0) ∙ starts-stay outside before event other starts)

    -- ---- lines about panels

    -- a fault that is passed up
    pub err-panels : (event : Event) (r : Result Reply EventFault) (fault : EventFault) (before now : List P)
        (scenes scenes' : List SceneValue)
        → IsErrAnd r (λ passed. passed ≡ fault) → KeepsOtherPanels event before now
        → ((starts : List Start) → InStep starts before scenes → AreRisen faults starts now scenes)
        → KeepsPanels tells scene faults calls numbers event r before now scenes scenes'
    err-panels event r fault before now scenes scenes' passed others risen =
        subst (λ (s : Result Reply EventFault). KeepsPanels tells scene faults calls numbers event s before now scenes
        scenes')
        (sym (passed-is r fault passed)) (record { others = others; in_step = tt; counted = tt; risen = risen })

    -- one that leaves panels as they were
    pub err-untouched : (event : Event) (r : Result Reply EventFault) (fault : EventFault) (before now : List P)
        (scenes scenes' : List SceneValue)
        → IsErrAnd r (λ passed. passed ≡ fault) → KeepsOtherPanels event before now → now ≡ before
        → KeepsPanels tells scene faults calls numbers event r before now scenes scenes'
    err-untouched event r fault before now scenes scenes' passed others same =
        err-panels event r fault before now scenes scenes' passed others (λ starts so.
        subst (λ (panels : List P). AreRisen faults starts panels scenes) (sym same)
        (in-step-risen starts before scenes so))

    -- a refresh begins
    module _ (k : ℕ) (panels : List P) (scenes scenes' : List SceneValue) (target : Blocks) (calls-made : ℕ) where
      refreshed-by : (before : Option SceneValue) → numbered k scenes ≡ before → refresh_refusal k before ≡ None
          → IfSome before (λ scene. scenes' ≡ with_numbered k (refreshing target scene) scenes)
          → ((starts : List Start) (before : SceneValue) → numbered k scenes ≡ Some before → InStep starts panels scenes
          → InStep starts panels (with_numbered k (refreshing target before) scenes))
          → ((starts : List Start) (before : SceneValue) → numbered k scenes ≡ Some before → Counted starts panels scenes
          → Counted starts panels (with_numbered k (refreshing target before) scenes))
          → KeepsPanels {E = EventFault} tells scene faults calls numbers (asks.Refresh k)
          (Ok (replies.Refresh k calls-made)) panels panels scenes scenes'
      refreshed-by None is may begun in-step counted = absurd cc
      refreshed-by (Some before) is may begun in-step counted = record {
        others = refl;
        in_step = λ starts so. subst (InStep starts panels) (sym begun) (in-step starts before is so);
        counted = λ starts so known. subst (Counted starts panels) (sym begun) (counted starts before is known);
        risen = tt;
      }

      pub refreshed-panels : refresh_refusal k (numbered k scenes) ≡ None
          → IfSome (numbered k scenes) (λ scene. scenes' ≡ with_numbered k (refreshing target scene) scenes)
          → ((starts : List Start) (before : SceneValue) → numbered k scenes ≡ Some before → InStep starts panels scenes
          → InStep starts panels (with_numbered k (refreshing target before) scenes))
          → ((starts : List Start) (before : SceneValue) → numbered k scenes ≡ Some before → Counted starts panels scenes
          → Counted starts panels (with_numbered k (refreshing target before) scenes))
          → KeepsPanels {E = EventFault} tells scene faults calls numbers (asks.Refresh k)
          (Ok (replies.Refresh k calls-made)) panels panels scenes scenes'
      refreshed-panels = refreshed-by (numbered k scenes) refl

    -- the same of the panels of a slice, and of the event of the line
    pub slice-panels : (event asked : Event) (r : Result Reply EventFault) (panels slice : List P)
        (scenes scenes' : List SceneValue) → event ≡ asked → slice ≡ panels
        → KeepsPanels tells scene faults calls numbers asked r slice slice scenes scenes'
        → KeepsPanels tells scene faults calls numbers event r panels panels scenes scenes'
    slice-panels event asked r panels slice scenes scenes' is same kept =
        subst (λ (line : Event). KeepsPanels tells scene faults calls numbers line r panels panels scenes scenes')
        (sym is)
        (subst (λ (l : List P). KeepsPanels tells scene faults calls numbers asked r l l scenes scenes') same kept)

    -- a panel is asked for its numbers
    pub summed-panels : (k : ℕ) (r : Result Reply EventFault) (panels : List P) (scenes : List SceneValue) (model : Model)
        (shown : Summary) (kept : Option SceneValue)
        → GivesEvent r model model (panel_turn model k shown kept)
        → KeepsPanels tells scene faults calls numbers (asks.Panel k) r panels panels scenes scenes
    summed-panels k r panels scenes model shown kept given =
        untouched-panels (asks.Panel k) r panels scenes scenes refl refl (λ reply is starts.
        let told : GivesEvent (Ok reply) model model (panel_turn model k shown kept)
        = subst (λ (s : Result Reply EventFault). GivesEvent s model model (panel_turn model k shown kept)) is given in
        ap (λ (s : Reply). starts_after s starts) (sym told.0) ∙ summed-stay model k shown kept starts)

    -- memory ran out in a painting
    pub given-up-panels : (k n : ℕ) (before now : List P) (scenes scenes' : List SceneValue) → SameOthers k before now
        → scenes' ≡ given_up k scenes
        → ((starts : List Start) → InStep starts before scenes → InStep starts now scenes')
        → KeepsPanels {E = EventFault} tells scene faults calls numbers (asks.Paint k n) (Err NoMemory) before now scenes
        scenes'
    given-up-panels k n before now scenes scenes' others is in-step = record {
      others = others;
      in_step = tt;
      counted = tt;
      risen = λ starts so.
          risen-given-up faults k n starts now scenes
          (subst (AreRisen faults starts now) is (in-step-risen starts now scenes' (in-step starts so)));
    }

    -- a painting is refused
    module _ (k n : ℕ) (before now : List P) (scenes scenes' : List SceneValue) (refusal : PanelRefusal)
        (given : IsPainting (Err refusal) scenes' (painting_among k n scenes (is_failure refusal)))
        (untouched : is_failure refusal ≡ false → now ≡ before)
        (in-step : (starts : List Start) → InStep starts before scenes → InStep starts now scenes') where
      refused-risen : (b : Bool) → is_failure refusal ≡ b → (starts : List Start) → InStep starts before scenes
          → AreRisen faults starts now scenes
      refused-risen true fails starts so =
          let after : (painting_among k n scenes true).after ≡ scenes' =
          (subst (λ (b : Bool). IsPainting (Err refusal) scenes' (painting_among k n scenes b)) fails given).1 in
          risen-failed faults k n starts now scenes
          (subst (AreRisen faults starts now) (sym after) (in-step-risen starts now scenes' (in-step starts so)))
      refused-risen false fails starts so =
          subst (λ (panels : List P). AreRisen faults starts panels scenes) (sym (untouched fails))
          (in-step-risen starts before scenes so)

      pub refused-painting : (r : Result Reply EventFault) → SameOthers k before now
          → ((starts : List Start) → InStep starts before scenes → Counted starts before scenes → Counted starts now
          scenes')
          → IfOk r (λ reply. (is_failure refusal ≡ true) × (reply ≡ reply_of (refusal_of_panel refusal)))
          → KeepsPanels tells scene faults calls numbers (asks.Paint k n) r before now scenes scenes'
      refused-painting (Ok reply) others counted failed =
          let stay : (starts : List Start) → starts_after reply starts ≡ starts = λ starts. ap
          (λ (r : Reply). starts_after r starts) failed.1 in
          record {
            others = others;
            in_step =
                λ starts so. subst (λ (l : List Start). InStep l now scenes') (sym (stay starts)) (in-step starts so);
            counted =
                λ starts so known. subst (λ (l : List Start). Counted l now scenes') (sym (stay starts))
                (counted starts so known);
            risen = tt;
          }
      refused-painting (Err fault) others counted failed =
          record { others = others; in_step = tt; counted = tt; risen = refused-risen (is_failure refusal) refl }

    -- ---- the same of a turn

    pub turn-panels : (event : Event) (reply : Reply) (before now : List P) (scenes scenes' : List SceneValue)
        → KeepsPanels {E = EventFault} tells scene faults calls numbers event (Ok reply) before now scenes scenes'
        → KeepsPanels {E = TurnFault} tells scene faults calls numbers event (Ok reply) before now scenes scenes'
    turn-panels event reply before now scenes scenes' kept =
        record { others = kept.others; in_step = kept.in_step; counted = kept.counted; risen = tt }

    pub fault-panels : (event : Event) (fault : EventFault) (up : TurnFault) (before now : List P)
        (scenes scenes' : List SceneValue)
        → KeepsPanels {E = EventFault} tells scene faults calls numbers event (Err fault) before now scenes scenes'
        → KeepsPanels {E = TurnFault} tells scene faults calls numbers event (Err up) before now scenes scenes'
    fault-panels event fault up before now scenes scenes' kept =
        record { others = kept.others; in_step = tt; counted = tt; risen = kept.risen }

    -- a refusal leaves panels
    pub refused-panels : (event : Event) (result : Result Reply TurnFault) (refusal : LineRefusal) (before now : List P)
        (scenes scenes' : List SceneValue)
        → KeepsOtherPanels event before now → now ≡ before → scenes' ≡ scenes
        → ((reply : Reply) → result ≡ Ok reply → reply ≡ reply_of refusal)
        → KeepsPanels tells scene faults calls numbers event result before now scenes scenes'
    refused-panels event result refusal before now scenes scenes' others same known is =
        subst (λ (panels : List P). KeepsPanels tells scene faults calls numbers event result before panels scenes
        scenes') (sym same)
        (untouched-panels event result before scenes scenes' (subst (KeepsOtherPanels event before) same others) known
        (λ reply ok starts. ap (λ (r : Reply). starts_after r starts) (is reply ok)))
