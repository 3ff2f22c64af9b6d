-- A save: it is of what the current bank holds, and what it leaves stands for the same.
use Rattle.std.proofs.Common.{◌≡◌, ⊎_elim, ℕ, ◌+◌, ◌<◌, leb, Bool, true, false, cond, List, [], ◌∷◌, ◌++◌, inl, inr, ◌≤◌}
use Rattle.std.proofs.Common.{length, Option, Some, None, IfSome, Result, Ok, Err, refl, sym, ◌∙◌, ap, subst, arith}
use Rattle.std.specs.Option.{ForSome}
use Rattle.std.specs.Prelude.{◌↔◌, IfOk, IsTrue, OnErr, option_map}
use Rattle.std.proofs.lemmas.Bool.{cases_lt, true≢false}
use Rattle.std.proofs.lemmas.Bool.Decides.{nat_tests}
use Rattle.std.proofs.lemmas.List.{append-nil}
use Rattle.std.proofs.lemmas.List.Elements.{All-from_recursion}
use Rattle.chart_model.specs.Answers.{◌>>=◌, or_fault}
use Rattle.chart_model.specs.State.{StateValue}
use Rattle.chart_model.specs.declared.command.Command.{Command}
use Rattle.chart_ports.specs.declared.images.Images.{Images}
use Rattle.chart_ports.specs.Moments.{LeavesOnly, MayBeLeft, images_of}
use Rattle.chart_ports.proofs.Moments.{and_then, started, weaker}
use Rattle.bank_journal.specs.Content.{Content}
use Rattle.bank_journal.specs.Bank.{IsBodyLength}
use Rattle.bank_journal.specs.Moments.{IsInStep}
use Rattle.bank_pair.specs.Head.{content_named, other_than}
use Rattle.bank_pair.specs.Pair.{HasSliceLeft, HasSlices, IsPairInStep, IsWritten, LeavesContent, LeavesEither, PairValue, Saves}
use Rattle.bank_pair.specs.Pair.{saved_content, with_frame, with_slice}
use Rattle.bank_pair.specs.Saving.{AreSlicesOf, SaveValue, gate_of_save}
use Rattle.bank_pair.specs.Handle.{value_of}
use Rattle.bank_pair.specs.declared.fault.SaveFault.{SaveFault}
use Rattle.bank_pair.specs.declared.pair.Pair.{Pair}
use Rattle.bank_pair.specs.declared.fault.SaveFault.TheVariants.{Full}
use Rattle.chart_store.specs.declared.refusal.Refusal.TheVariants.{BankFull}
use Rattle.chart_store.specs.declared.store.Store.{Store}
use Rattle.chart_store.specs.declared.submit_fault.SubmitFault.TheVariants.{DeskFault, Refused}
use Rattle.chart_store.specs.Checkpoint.{checkpoint_in}
use Rattle.chart_store.specs.Images.{AreAccepted, Holds, IsReached, Lead, StandFor, state_after_record, state_after_records}
use Rattle.chart_store.specs.Loaded.{nothing_held}
use Rattle.chart_store.specs.declared.save_state.SaveState.TheVariants.{Saved, Under}
use Rattle.chart_store.specs.Saving.{HasBegun, is_done_by, save_after, saved_by, used_after}
use Rattle.chart_store.specs.Store.{IsKept, IsSaveOf, StandsForSame, pair_of, save_of, state_of}
use Rattle.chart_store.specs.Submitted.{RefusedHas, fault_of_saving}
use Rattle.chart_store.proofs.Naming.{left_says, read_says}
use Rattle.chart_store.proofs.Reading.{SpelledLaw, goes_on_by, held-leads, leads-held}
use Rattle.chart_store.proofs.Submitting.{says-stands}

pub some_is : {A : Type 0} {x y : A} → ◌≡◌ {A = Option A} (Some x) (Some y) → x ≡ y
some_is e = cc

ok_is : {A E : Type 0} {x y : A} → ◌≡◌ {A = Result A E} (Ok x) (Ok y) → x ≡ y
ok_is e = cc

-- ---- a save that begins

-- any slices of which none is written
no_slice : (bytes : List ℕ) (save : Option SaveValue) → IfSome save (λ save. save.written ≡ 0) → HasSlices bytes save
no_slice bytes None none = tt
no_slice bytes (Some save) none = λ some. absurd (some none)

pub begun-kept : (contents : ℕ → List ℕ) (may_leave : ℕ → List ℕ → Type 0) (slices : ℕ) (old new : Store) →
    IsKept contents may_leave old → HasBegun slices old new → IsKept contents may_leave new
begun-kept contents may_leave slices old new kept begun =
    let pair = pair_of new in
    record {
      content = kept.content;
      pair = record {
        named = kept.pair.named ∙ sym begun.file;
        head = kept.pair.head;
        bank = subst (λ (file : ℕ). IsInStep (contents file) (may_leave file) pair.gate kept.content) (sym begun.file)
            (subst (λ (gate : ℕ). IsInStep (contents (pair_of old).file) (may_leave (pair_of old).file) gate kept.content)
            (sym begun.gate) kept.pair.bank);
        slices = no_slice (contents (other_than pair.file)) pair.save (subst (λ (s : Option SaveValue). IfSome s (λ save. save.written ≡ 0)) (sym begun.save)
            refl);
      };
      holds = subst (Holds kept.content) (sym begun.state) kept.holds;
      save = subst (λ (s : Option SaveValue). IfSome s (IsSaveOf kept.content)) (sym begun.save) (record {
        saved = state_of old;
        starts = begun.says;
        before = kept.content.bodies;
        since = [];
        parts = sym (append-nil kept.content.bodies);
        framed = record {
          framed = refl;
          lengths = All-from_recursion (λ body. IsBodyLength (length body)) [] tt;
        };
        holds = kept.holds;
      });
    }

-- ---- what the records since lead to

-- records behind others
record Behind (mid : StateValue) (since : List (List ℕ)) (last : StateValue) : Type 0 where
  gate : ℕ
  rest : state_after_records mid gate since ≡ Ok last

replay-behind : (first mid last : StateValue) (gate : ℕ) (before since : List (List ℕ)) →
    state_after_records first gate before ≡ Ok mid → state_after_records first gate (before ++ since) ≡ Ok last →
    Behind mid since last
replay-behind first mid last gate [] since here all =
    let same : first ≡ mid = ok_is here in
    record { gate = gate; rest = subst (λ (s : StateValue). state_after_records s gate since ≡ Ok last) same all }
replay-behind first mid last gate (body ∷ before) since here all =
    let begins = goes_on_by first gate body before mid (state_after_record first body) refl here in
    replay-behind begins.next mid last (gate + (5 + length body)) before since begins.rest
    (sym (ap (λ (o : Option StateValue). or_fault gate o
    >>= λ next. state_after_records next (gate + (5 + length body)) (before ++ since)) begins.carried) ∙ all)

pub leads-behind : SpelledLaw → (first mid last : StateValue) (before since : List (List ℕ)) → Lead first before mid →
    Lead first (before ++ since) last → Lead mid since last
leads-behind law first mid last before since here all =
    let behind = replay-behind first mid last 0 before since (leads-held law first 0 before mid here)
    (leads-held law first 0 (before ++ since) last all) in
    held-leads law mid behind.gate since last behind.rest

accepted-all : (state : StateValue) (commands more : List Command) (mid last : StateValue) →
    AreAccepted state commands mid → AreAccepted mid more last → AreAccepted state (commands ++ more) last
accepted-all state [] more mid last is then_are = subst (λ (s : StateValue). AreAccepted s more last) (sym is) then_are
accepted-all state (command ∷ commands) more mid last (done, leaves, are) then_are =
    (done, leaves, accepted-all done.state commands more mid last are then_are)

reached-by : (first mid : StateValue) (bodies : List (List ℕ)) → IsReached first → Lead first bodies mid → IsReached mid
reached-by first mid bodies reached leads =
    (reached.0 ++ leads.commands, accepted-all nothing_held reached.0 leads.commands first mid reached.1 leads.accepted)

-- ---- what is saved

module _ (law : SpelledLaw) (content : Content) (state : StateValue) (holds : Holds content state) (save : SaveValue)
    (of : IsSaveOf content save) where
  -- the checkpoint and the records since hold the same
  abbrev pub saved-holds : Holds (saved_content save of.since) state
  saved-holds =
      let same : of.holds.first ≡ holds.first = some_is (sym of.holds.starts ∙ holds.starts) in
      record {
        first = of.saved;
        starts = of.starts;
        leads = leads-behind law of.holds.first of.saved state of.before of.since of.holds.leads
            (subst (λ (s : StateValue). Lead s (of.before ++ of.since) state) (sym same)
            (subst (λ (l : List (List ℕ)). Lead holds.first l state) of.parts holds.leads));
      }

  -- and stand for it, where the files stood for it
  pub saved-stands : (other images : Images) → content_named other ≡ Ok content → StandFor other state →
      content_named images ≡ Ok (saved_content save of.since) → StandFor images state
  saved-stands other images said stood says =
      let same : content ≡ stood.content = ok_is (sym said ∙ stood.says) in
      let starts = ap (λ (c : Content). checkpoint_in c.checkpoint) same in
      let first : of.holds.first ≡ stood.holds.first = some_is (sym of.holds.starts ∙ starts ∙ stood.holds.starts) in
      record {
        content = saved_content save of.since;
        says = says;
        holds = saved-holds;
        reached = reached-by of.holds.first of.saved of.before (subst IsReached (sym first) stood.reached) of.holds.leads;
      }

-- ---- the save under way of a store that is kept

-- the save is of what the bank holds
save-of : (content : Content) (o : Option SaveValue) (save : SaveValue) → IfSome o (IsSaveOf content) → o ≡ Some save →
    IsSaveOf content save
save-of content o save of is = subst (λ (s : Option SaveValue). IfSome s (IsSaveOf content)) is of

module _ (contents : ℕ → List ℕ) (may_leave : ℕ → List ℕ → Type 0) (store : Store) (kept : IsKept contents may_leave store)
    (save : SaveValue) (under : save_of store ≡ Some save) where
  pub saves : IsSaveOf kept.content save
  saves = save-of kept.content (save_of store) save kept.save under

  -- ---- slices

  pub slices-kept : (next : ℕ → List ℕ) (then_may : ℕ → List ℕ → Type 0) (later : Store) (written : ℕ) →
      IsPairInStep next then_may (pair_of later) kept.content → state_of later ≡ state_of store →
      save_of later ≡ Some (record save { written = written }) → IsKept next then_may later
  slices-kept next then_may later written step state_is save_is = record {
    content = kept.content;
    pair = step;
    holds = subst (Holds kept.content) (sym state_is) kept.holds;
    save = subst (λ (s : Option SaveValue). IfSome s (IsSaveOf kept.content)) (sym save_is) (record {
      saved = saves.saved;
      starts = saves.starts;
      before = saves.before;
      since = saves.since;
      parts = saves.parts;
      framed = saves.framed;
      holds = saves.holds;
    });
  }

  -- ---- the head that is turned

  pub turned-kept : SpelledLaw → (next : ℕ → List ℕ) (then_may : ℕ → List ℕ → Type 0) (later : Store) →
      IsPairInStep next then_may (pair_of later) (saved_content save saves.since) → state_of later ≡ state_of store →
      save_of later ≡ None → IsKept next then_may later
  turned-kept law next then_may later step state_is save_is = record {
    content = saved_content save saves.since;
    pair = step;
    holds = subst (Holds (saved_content save saves.since)) (sym state_is)
        (saved-holds law kept.content (state_of store) kept.holds save saves);
    save = subst (λ (s : Option SaveValue). IfSome s (IsSaveOf (saved_content save saves.since))) (sym save_is) tt;
  }

  module _ (stood : StandFor (images_of contents) (state_of store)) where
    read-says : content_named (images_of contents) ≡ Ok kept.content
    read-says = read_says contents may_leave (pair_of store) kept.content kept.pair

    -- whatever says what the bank said stands for what is held
    pub same-stands : (images : Images) → content_named images ≡ Ok kept.content → StandFor images (state_of store)
    same-stands images says = says-stands images (images_of contents) (state_of store) (says ∙ sym read-says) stood

    -- and so does what says the checkpoint and the records since
    pub turned-stands : SpelledLaw → (images : Images) → content_named images ≡ Ok (saved_content save saves.since) →
        StandFor images (state_of store)
    turned-stands law images says =
        saved-stands law kept.content (state_of store) kept.holds save saves (images_of contents) images read-says stood says

    pub slices-stand : {D : Type 0} (clock : D → ℕ) (might : D → ℕ → Images → List ℕ → Type 0) (old new : D)
        (said : List ℕ) → LeavesOnly clock might old new (LeavesContent said kept.content) →
        LeavesOnly clock might old new (StandsForSame said (state_of store))
    slices-stand clock might old new said run =
        weaker clock might old new (LeavesContent said kept.content) (StandsForSame said (state_of store))
        (λ images so_far leaves. record { silent = leaves.silent; stands = same-stands images leaves.says }) run

    pub turn-stands : {D : Type 0} (clock : D → ℕ) (might : D → ℕ → Images → List ℕ → Type 0) (old mid new : D)
        (said then_said : List ℕ) → SpelledLaw → then_said ≡ said →
        LeavesOnly clock might old mid (LeavesContent said kept.content) →
        LeavesOnly clock might mid new (LeavesEither then_said kept.content (saved_content save saves.since)) →
        LeavesOnly clock might old new (StandsForSame said (state_of store))
    turn-stands clock might old mid new said then_said law silent first then_run =
        and_then clock might old mid new (StandsForSame said (state_of store))
        (slices-stand clock might old mid said first)
        (weaker clock might mid new (LeavesEither then_said kept.content (saved_content save saves.since))
        (StandsForSame said (state_of store))
        (λ images so_far leaves. record {
          silent = leaves.silent ∙ silent;
          stands = ⊎_elim (same-stands images) (turned-stands law images) leaves.either;
        }) then_run)

-- ---- slices, one after the other

-- so many slices more are written, and one is left at least
pub record AreWritten (pair : PairValue) (save : SaveValue) (count : ℕ) : Type 0 where
  pub saves : Saves pair (record save { written = save.written + count })
  pub left : save.written + count < save.slices

pub none-written : (pair : PairValue) (save : SaveValue) → HasSliceLeft pair → Saves pair save → AreWritten pair save 0
none-written pair save (own, saves, left) same =
    let is : own ≡ save = some_is (sym saves ∙ same) in
    record {
      saves = same ∙ ap (λ (n : ℕ). Some (record save { written = n }))
          (let e : save.written ≡ save.written + 0 = omega arith in e);
      left = let below : save.written < save.slices = subst (λ (s : SaveValue). s.written < s.slices) is left in
          omega (arith, below);
    }

pub slice-left : (pair : PairValue) (save : SaveValue) (count : ℕ) → AreWritten pair save count → HasSliceLeft pair
slice-left pair save count h = (record save { written = save.written + count }, h.saves, h.left)

written-more : (pair : PairValue) (save : SaveValue) (count : ℕ) →
    Saves pair (with_slice (record save { written = save.written + count })) →
    Saves pair (record save { written = save.written + (count + 1) })
written-more pair save count h =
    h ∙ ap (λ (n : ℕ). Some (record save { written = n }))
    (let e : save.written + count + 1 ≡ save.written + (count + 1) = omega arith in e)

module _ (old new : PairValue) (save : SaveValue) (count : ℕ) (before : AreWritten old save count)
    (adds : (s : SaveValue) → Saves old s → Saves new (with_slice s)) (last : Bool)
    (ends : (s : SaveValue) → Saves new s → (IsTrue last ↔ (s.written ≡ s.slices))) where
  has-more : Saves new (record save { written = save.written + (count + 1) })
  has-more = written-more new save count (adds (record save { written = save.written + count }) before.saves)

  -- one more, which wasn't the last
  pub one-written : last ≡ false → AreWritten new save (count + 1)
  one-written not_last =
      let law = ends (record save { written = save.written + (count + 1) }) has-more in
      let more : ¬ (save.written + (count + 1) ≡ save.slices) =
      λ e. absurd (true≢false (sym (law.1 e) ∙ not_last)) in
      record { saves = has-more; left = omega (arith, before.left, more) }

  -- the last one
  pub all-written : last ≡ true → Saves new (record save { written = save.slices })
  all-written is_last =
      let law = ends (record save { written = save.written + (count + 1) }) has-more in
      has-more ∙ ap (λ (n : ℕ). Some (record save { written = n })) (law.0 is_last)

  pub done-by : (n : ℕ) → count < n → last ≡ true → true ≡ is_done_by save n
  done-by n below is_last =
      let law = ends (record save { written = save.written + (count + 1) }) has-more in
      let all : save.written + (count + 1) ≡ save.slices = law.0 is_last in
      let passes : leb save.slices (save.written + n) ≡ true = grind (arith, nat_tests, all, below) in sym passes

-- none of them was the last
pub not-done-by : (pair : PairValue) (save : SaveValue) (count n : ℕ) → AreWritten pair save count → count ≡ n →
    false ≡ is_done_by save n
not-done-by pair save count n h all =
    let left = h.left in
    let fails : leb save.slices (save.written + n) ≡ false = grind (arith, nat_tests, left, all) in sym fails

pub still-saves : (pair : PairValue) (save : SaveValue) (count n : ℕ) → AreWritten pair save count → count ≡ n →
    Saves pair (record save { written = save.written + n })
still-saves pair save count n h all =
    subst (λ (m : ℕ). Saves pair (record save { written = save.written + m })) all h.saves

-- ---- what is answered

module _ (save : SaveValue) (n : ℕ) where
  pub saved-under : false ≡ is_done_by save n → saved_by save n ≡ Under (save.written + n) save.slices
  saved-under e = ap (λ (b : Bool). cond b Saved (Under (save.written + n) save.slices)) (sym e)

  pub saved-done : true ≡ is_done_by save n → saved_by save n ≡ Saved
  saved-done e = ap (λ (b : Bool). cond b Saved (Under (save.written + n) save.slices)) (sym e)

  pub after-under : false ≡ is_done_by save n → save_after save n ≡ Some (record save { written = save.written + n })
  after-under e = ap (λ (b : Bool). cond b None (Some (record save { written = save.written + n }))) (sym e)

  pub after-done : true ≡ is_done_by save n → save_after save n ≡ None
  after-done e = ap (λ (b : Bool). cond b None (Some (record save { written = save.written + n }))) (sym e)

  pub used-under : (used : ℕ) → false ≡ is_done_by save n → used_after used save n ≡ used
  used-under used e = ap (λ (b : Bool). cond b (gate_of_save save + 1) used) (sym e)

  pub used-done : (used : ℕ) → true ≡ is_done_by save n → used_after used save n ≡ gate_of_save save + 1
  used-done used e = ap (λ (b : Bool). cond b (gate_of_save save + 1) used) (sym e)

  -- a slice is left then
  pub still-left : false ≡ is_done_by save n → save.written + n < save.slices
  still-left e =
      let fails : leb save.slices (save.written + n) ≡ false = sym e in grind (arith, nat_tests, fails)

-- ---- how far a save is

abbrev pub progress_of : SaveValue → ℕ × ℕ
progress_of save = (save.written, save.slices)

pub no-progress : (o : Option SaveValue) → option_map progress_of o ≡ None → o ≡ None
no-progress None none = refl
no-progress (Some save) none = absurd cc

pub progress-under : (o : Option SaveValue) (save : SaveValue) (told : ℕ × ℕ) → o ≡ Some save →
    Some told ≡ option_map progress_of o → Under told.0 told.1 ≡ Under save.written save.slices
progress-under o save told is tells =
    let same : told ≡ progress_of save = some_is (tells ∙ ap (option_map progress_of) is) in
    ap (λ (p : ℕ × ℕ). Under p.0 p.1) same

-- ---- before the first slice

-- no call of the desk
pub nothing-said : {D : Type 0} (clock : D → ℕ) (might : D → ℕ → Images → List ℕ → Type 0) (desk : D)
    (contents : ℕ → List ℕ) (may_leave : ℕ → List ℕ → Type 0) (said : List ℕ) (pair : PairValue) (content : Content) →
    IsPairInStep contents may_leave pair content →
    ((images : Images) (bytes : List ℕ) → might desk (clock desk) images bytes → MayBeLeft may_leave images × (bytes ≡ said))
    → LeavesOnly clock might desk desk (LeavesContent said content)
nothing-said clock might desk contents may_leave said pair content step only_now =
    started clock might desk (LeavesContent said content)
    (λ images bytes left.
    let now = only_now images bytes left in
    record { silent = now.1; says = left_says contents may_leave pair content step images now.0 })

-- one slice more, behind those before it
pub slices-go : {D : Type 0} (clock : D → ℕ) (might : D → ℕ → Images → List ℕ → Type 0) (old mid new : D)
    (said then_said : List ℕ) (content : Content) → then_said ≡ said →
    LeavesOnly clock might old mid (LeavesContent said content) →
    LeavesOnly clock might mid new (LeavesContent then_said content) →
    LeavesOnly clock might old new (LeavesContent said content)
slices-go clock might old mid new said then_said content silent first then_run =
    and_then clock might old mid new (LeavesContent said content) first
    (weaker clock might mid new (LeavesContent then_said content) (LeavesContent said content)
    (λ images so_far leaves. record { silent = leaves.silent ∙ silent; says = leaves.says }) then_run)

-- a slice is left of a save that is under way
abbrev pub HasLeft : PairValue → Type 0
HasLeft pair = ForSome pair.save (λ save. save.written < save.slices)

pub slice-left-of : (pair : PairValue) → HasLeft pair → ¬ (pair.save ≡ None) → HasSliceLeft pair
slice-left-of pair left some = by_save pair.save refl
  where
    by_save : (o : Option SaveValue) → pair.save ≡ o → HasSliceLeft pair
    by_save None is = absurd (some is)
    by_save (Some save) is = (save, is, left save is)

-- none is under way
pub idle-left : (pair : PairValue) → pair.save ≡ None → HasLeft pair
idle-left pair idle save is = absurd (let e : ◌≡◌ {A = Option SaveValue} None (Some save) = sym idle ∙ is in cc)

-- the save that is under way is this one
pub this-left : (pair : PairValue) (own : SaveValue) → Saves pair own → own.written < own.slices → HasLeft pair
this-left pair own saves below save is =
    subst (λ (s : SaveValue). s.written < s.slices) (some_is (sym saves ∙ is)) below

-- it is seen as another pair
pub same-left : (old new : PairValue) → new ≡ old → HasLeft old → HasLeft new
same-left old new same left = subst HasLeft (sym same) left

-- slices were written, and none was the last
pub more-left : (pair : PairValue) (save : SaveValue) (count : ℕ) → AreWritten pair save count → HasLeft pair
more-left pair save count h =
    this-left pair (record save { written = save.written + count }) h.saves h.left

-- it is that of another pair, with one frame more
pub framed-left : (old new : PairValue) (frame : List ℕ) → new.save ≡ option_map (with_frame frame) old.save →
    HasLeft old → HasLeft new
framed-left old new frame more left = by_save old.save refl
  where
    by_save : (o : Option SaveValue) → old.save ≡ o → HasLeft new
    by_save None is = idle-left new (more ∙ ap (option_map (with_frame frame)) is)
    by_save (Some own) is =
        this-left new (with_frame frame own) (more ∙ ap (option_map (with_frame frame)) is) (left own is)

pub some-saved : (pair : PairValue) (save : SaveValue) → Saves pair save → ¬ (pair.save ≡ None)
some-saved pair save saves none = absurd (let e : ◌≡◌ {A = Option SaveValue} None (Some save) = sym none ∙ saves in cc)

-- there is a slice at least
pub some-slice : (checkpoint : List ℕ) (slices : ℕ) → AreSlicesOf checkpoint slices → 0 < slices
some-slice checkpoint slices of =
    elim (cases_lt 0 slices) [
      | inl h ↦ h
      | inr h ↦ absurd (let bound : 8 + length checkpoint ≤ 0 = (of 0).1 (omega (arith, h)) in omega (arith, bound))
    ]

-- the save has begun, or none did
pub begun-left : (old new : Pair) (checkpoint : List ℕ) (result : Result ℕ SaveFault) → (value_of old).save ≡ None →
    IfOk result
    (λ slices. Saves (value_of new) (record { checkpoint = checkpoint; slices = slices; written = 0; since = [] })) →
    IfOk result (λ slices. AreSlicesOf checkpoint slices) → OnErr result (new ≡ old) → HasLeft (value_of new)
begun-left old new checkpoint (Ok slices) idle begun of err =
    this-left (value_of new) (record { checkpoint = checkpoint; slices = slices; written = 0; since = [] }) begun
    (some-slice checkpoint slices of)
begun-left old new checkpoint (Err fault) idle begun of err =
    idle-left (value_of new) (ap (λ (pair : Pair). (value_of pair).save) err ∙ idle)

-- all slices are written
pub is-written : (pair : PairValue) (save : SaveValue) → Saves pair (record save { written = save.slices }) → IsWritten pair
is-written pair save saves = (record save { written = save.slices }, saves, refl)

-- ---- a save that begins, by what the pair answers

-- the same checkpoint, as it is spelled
pub begun-as : (pair : PairValue) (checkpoint spelled : List ℕ) (slices : ℕ) → checkpoint ≡ spelled →
    Saves pair (record { checkpoint = checkpoint; slices = slices; written = 0; since = [] }) →
    Saves pair (record { checkpoint = spelled; slices = slices; written = 0; since = [] })
begun-as pair checkpoint spelled slices is saves =
    subst (λ (b : List ℕ). Saves pair (record { checkpoint = b; slices = slices; written = 0; since = [] })) is saves

-- whether a save that needs so many bytes is refused
abbrev pub IsFullBeyond : Result ℕ SaveFault → ℕ → Type 0
IsFullBeyond result need = (result ≡ Err (Full need)) ↔ (268435456 < need)

pub save-fits : (result : Result ℕ SaveFault) (slices need : ℕ) → result ≡ Ok slices → IsFullBeyond result need →
    need ≤ 268435456
save-fits result slices need done full =
    elim (cases_lt 268435456 need) [
      | inl over ↦ absurd (let e : ◌≡◌ {A = Result ℕ SaveFault} (Ok slices) (Err (Full need)) = sym done ∙ full.1 over in
          cc)
      | inr fits ↦ fits
    ]

pub save-full : (result : Result ℕ SaveFault) (fault : SaveFault) (need wanted : ℕ) → result ≡ Err fault →
    fault ≡ Full need → IsFullBeyond result need → need ≡ wanted →
    RefusedHas (λ refusal. (refusal ≡ BankFull 0 wanted) × (268435456 < wanted)) (fault_of_saving fault)
save-full result (Full own) need wanted failed told full same =
    let own_is : own ≡ wanted = full_is told ∙ same in (
      ap (λ (n : ℕ). BankFull 0 n) own_is,
      subst (λ (n : ℕ). 268435456 < n) same (full.0 (failed ∙ ap Err told)),
    )
  where
    full_is : {a b : ℕ} → Full a ≡ Full b → a ≡ b
    full_is e = cc

pub saving-no_desk : (fault : SaveFault) → ¬ (fault_of_saving fault ≡ DeskFault)
saving-no_desk (Full need) e = absurd (let f : Refused (BankFull 0 need) ≡ DeskFault = e in cc)
