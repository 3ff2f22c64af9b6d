-- What holds after the calls of a log, and at the moments of one more call.
use Rattle.std.proofs.Common.{◌≡◌, ◌⊎◌, inl, inr, ⊎_elim, ℕ, zero, suc, ◌≤◌, true, false, List, [], ◌∷◌, ◌++◌, length}
use Rattle.std.proofs.Common.{Result, Ok, Err, IfOk, refl, sym, ap, subst, arith, length-append, ◌∙◌}
use Rattle.chart_ports.specs.Filled.{files_through, images_after}
use Rattle.chart_ports.specs.declared.images.Fill.{Fill}
use Rattle.chart_ports.specs.declared.images.Fill.TheVariants.{New}
use Rattle.chart_ports.specs.Log.{Event, IsLeftBetween, IsLeftInside, IsLeftSince, SaysInside, State, after, after_call}
use Rattle.chart_ports.specs.Log.{disk_with, leaves_after, leaves_inside, said_after}
use Rattle.chart_ports.specs.Moments.{Elapses, image_of}
use Rattle.chart_ports.specs.declared.images.Images.{Images}
use Rattle.chart_ports.specs.declared.log.Deed.{Deed}
use Rattle.chart_ports.specs.declared.log.Deed.TheVariants.{Nothing, Write, Cut, Sync, Say}
use Rattle.chart_ports.specs.LogLaws.{IsPresent}

pub after_push : (disk : State) (events : List Event) (event : Event)
    → after disk (events ++ event ∷ []) ≡ after_call (after disk events) event
after_push disk [] event = refl
after_push disk (first ∷ events) event = after_push (after_call disk first) events event

-- what was possible since a moment stays so
keeps : (disk : State) (events : List Event) (event : Event) (t : ℕ) (images : Images) (said : List ℕ)
    → t ≤ length events
    → IsLeftSince disk events t images said → IsLeftSince disk (events ++ event ∷ []) t images said
keeps disk [] event zero images said le might = inl might
keeps disk [] event (suc t) images said le might = absurd (omega (arith, le))
keeps disk (first ∷ events) event zero images said le (inl here) = inl here
keeps disk (first ∷ events) event zero images said le (inr (inl inside)) = inr (inl inside)
keeps disk (first ∷ events) event zero images said le (inr (inr later)) =
    inr (inr (keeps (after_call disk first) events event zero images said (omega arith) later))
keeps disk (first ∷ events) event (suc t) images said le might =
    keeps (after_call disk first) events event t images said (omega (arith, le)) might

-- and what comes on top is what the call may leave, inside it or after it
adds : (disk : State) (events : List Event) (event : Event) (t : ℕ) (images : Images) (said : List ℕ)
    → t ≤ length events
    → IsLeftSince disk (events ++ event ∷ []) t images said
    → IsLeftSince disk events t images said
    ⊎ (IsLeftInside (after disk events) event images said
    ⊎ IsLeftBetween (after_call (after disk events) event) images said)
adds disk [] event zero images said le (inl here) = inl here
adds disk [] event zero images said le (inr new) = inr new
adds disk [] event (suc t) images said le might = absurd (omega (arith, le))
adds disk (first ∷ events) event zero images said le (inl here) = inl (inl here)
adds disk (first ∷ events) event zero images said le (inr (inl inside)) = inl (inr (inl inside))
adds disk (first ∷ events) event zero images said le (inr (inr later)) =
    ⊎_elim (λ past. inl (inr (inr past))) (λ new. inr new)
    (adds (after_call disk first) events event zero images said (omega arith) later)
adds disk (first ∷ events) event (suc t) images said le might =
    adds (after_call disk first) events event t images said (omega (arith, le)) might

-- What a crash may leave after a call it may leave inside it.
ends_inside : (disk : State) (deed : Deed) (bytes : List ℕ) → IsPresent disk → (file : ℕ) (image : List ℕ)
    → leaves_after disk deed bytes file image → leaves_inside disk deed bytes file image
ends_inside disk Nothing bytes here file image left = left
ends_inside disk (Write touched at done) bytes here file image left = left
ends_inside disk (Cut touched n done) bytes here file image left = left
ends_inside disk (Sync touched true) bytes here file image (inl other) = other.1
ends_inside disk (Sync touched true) bytes here file image (inr is) =
    subst (λ f. disk.leaves f image) (sym is.0)
    (subst (λ (i : List ℕ). disk.leaves touched i) (sym is.1) (here touched))
ends_inside disk (Sync touched false) bytes here file image left = left
ends_inside disk (Say done) bytes here file image left = left

said_inside : (said : List ℕ) (deed : Deed) (bytes now : List ℕ) → now ≡ said_after said deed bytes
    → SaysInside said deed bytes now
said_inside said Nothing bytes now is = is
said_inside said (Write touched at done) bytes now is = is
said_inside said (Cut touched n done) bytes now is = is
said_inside said (Sync touched done) bytes now is = is
said_inside said (Say done) bytes now is = (done, is)

-- the time that one more call takes
pub elapses_one : (disk : State) (events : List Event) (event : Event) → IsPresent (after disk events)
    → Elapses (length events) (length (events ++ event ∷ [])) (IsLeftSince disk events)
    (IsLeftSince disk (events ++ event ∷ []))
    (leaves_inside (after disk events) event.0 event.1) (SaysInside (after disk events).said event.0 event.1)
elapses_one disk events event here = record {
  later = omega (arith, length-append events (event ∷ []));
  nothing_else = λ t images said le might. ⊎_elim (λ past. inl past) (λ new. inr (⊎_elim (λ inside. inside)
      (λ now. (
        λ file. ends_inside (after disk events) event.0 event.1 here file (image_of images file) (now.0 file),
        said_inside (after disk events).said event.0 event.1 said now.1,
      )) new))
      (adds disk events event t images said le might);
  keeps = λ t images said le might. keeps disk events event t images said le might;
}

-- the time that nothing takes
pub elapses_none : (disk : State) (events : List Event) (may_leave : ℕ → List ℕ → Type 0) (says : List ℕ → Type 0)
    → Elapses (length events) (length events) (IsLeftSince disk events) (IsLeftSince disk events) may_leave says
elapses_none disk events may_leave says = record {
  later = omega arith;
  nothing_else = λ t images said le might. inl might;
  keeps = λ t images said le might. might;
}

files_through_log : (disk : State) (events : List Event) → files_through disk.files events ≡ (after disk events).files
files_through_log disk [] = refl
files_through_log disk (event ∷ events) = files_through_log (after_call disk event) events

-- the fill of new bytes is what a read gives
pub images_after_new : (fill : Fill) (start : Images) (events : List Event) → fill ≡ New
    → images_after fill start events ≡ (after (disk_with start) events).files
images_after_new fill start events is =
    ap (λ (f : Fill). images_after f start events) is ∙ files_through_log (disk_with start) events

pub read_new : {E : Type 0} (fill : Fill) (start : Images) (events : List Event) (result : Result Images E)
    → IfOk result (λ images. images ≡ images_after fill start events) → fill ≡ New
    → IfOk result (λ images. images ≡ (after (disk_with start) events).files)
read_new fill start events (Ok images) found is = found ∙ images_after_new fill start events is
read_new fill start events (Err e) found is = found
