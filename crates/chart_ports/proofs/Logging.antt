-- What a call on a disk in memory does, whether it was logged or not.
use Rattle.std.proofs.Common.{◌≡◌, ◌≢◌, inl, inr, ℕ, ◌+◌, ◌≤◌, ◌∙◌, Bool, true, false, not, IsTrue, List, [], ◌∷◌, ◌++◌}
use Rattle.std.proofs.Common.{Result, Ok, Err, OnOk, OnErr, append_assoc, length, take, drop, refl, sym, ap, subst}
use Rattle.std.proofs.Common.{arith, length-append, length-take, length-drop}
use Rattle.std.proofs.lemmas.List.{take_at, take-take}
use Rattle.std.proofs.lemmas.Slice.{drop-append-drop}
use Rattle.std.specs.Prelude.{vec_capacity, vec_len}
use Rattle.chart_ports.specs.Disk.{CutShort, IsPlace, LeavesNoLess, Only, SameFiles, Torn, with_bytes}
use Rattle.chart_ports.specs.Log.{Event, IsLeftBySync, IsLeftByTouch, IsLeftSince, SaysInside, State, after, after_call}
use Rattle.chart_ports.specs.Log.{disk_with, files_after, leaves_after, leaves_inside, said_after, with_image}
use Rattle.chart_ports.specs.MemoryDisk.{HasRoom, Keeps, Logs, SaysOnly, Stays, Touches, clock_of, contents_of, events}
use Rattle.chart_ports.specs.MemoryDisk.{leaves_of}
use Rattle.chart_ports.specs.MemoryDisk.{might_of, said_of, state_of}
use Rattle.chart_ports.specs.MemoryFiles.{HasFileRoom}
use Rattle.chart_ports.specs.Moments.{Elapses, image_of}
use Rattle.chart_ports.specs.Said.{SaysFront}
use Rattle.chart_ports.specs.declared.images.Images.{Images}
use Rattle.chart_ports.specs.declared.log.Deed.{Deed}
use Rattle.chart_ports.specs.declared.log.Deed.TheVariants.{Nothing, Write, Cut, Sync, Say}
use Rattle.chart_ports.specs.declared.memory_disk.MemoryDisk.{MemoryDisk}
use Rattle.chart_ports.specs.declared.memory_files.MemoryFiles.{MemoryFiles}
use Rattle.chart_ports.specs.LogLaws.{image_of_with_other, present_after}
use Rattle.chart_ports.proofs.Files.{image_of_with}
use Rattle.chart_ports.proofs.Logs.{after_push, elapses_none, elapses_one}

pub torn_refl : (at n : ℕ) (image : List ℕ) → Torn at n image image
torn_refl at n image = record { before = refl; after = refl; no_shorter = omega arith; no_longer = omega arith }

pub cut_refl : (n : ℕ) (image : List ℕ) → CutShort n image image
cut_refl n image = record { before = refl; no_longer = omega arith }

cut_done : (n : ℕ) (file : List ℕ) → CutShort n file (take n file)
cut_done n file = record { before = take-take n n file (omega arith); no_longer = omega (arith, length-take n file) }

not_true : IsTrue false → ⊥
not_true is = cc is

-- a call that failed was listed, or not logged
pub not_done : (listed logged : Bool) → (IsTrue logged → IsTrue listed) → ¬ (IsTrue (not listed) × IsTrue logged)
not_done true logged cause both = not_true both.0
not_done false logged cause both = not_true (cause both.1)

-- a write of a front of the bytes is a torn write of them all
torn_written : (at done : ℕ) (bytes file : List ℕ) → at ≤ length file
    → Torn at (length bytes) file (with_bytes at (take done bytes) file)
torn_written at done bytes file within =
    let front = take done bytes in
    let at_place : length (take at file) ≡ at = omega (arith, length-take at file) in
    let fits : at + length front ≤ at + length bytes = omega (arith, length-take done bytes) in
    let behind : length (take at file ++ front) ≡ at + length front =
    omega (arith, at_place, length-append (take at file) front) in
    record {
      before = torn_before at front (drop (at + length front) file) file at_place;
      after = drop-append-drop (at + length front) file (take at file ++ front) (at + length bytes) fits behind;
      no_shorter = omega (
        arith,
        behind,
        length-append (take at file ++ front)
            (drop (at + length front) file),
        length-drop (at + length front) file,
      );
      no_longer = omega (
        arith,
        behind,
        fits,
        length-append (take at file ++ front)
            (drop (at + length front) file),
        length-drop (at + length front) file,
      );
    }
  where
    torn_before : (at : ℕ) (front rest file : List ℕ) → length (take at file) ≡ at
        → take at (take at file ++ front ++ rest) ≡ take at file
    torn_before at front rest file is =
        ap (λ (l : List ℕ). take at l) (append_assoc (take at file) front rest)
        ∙ take_at (take at file) (front ++ rest) at is

-- what the files and what was said are after one more call
pub files_step : (start files now : Images) (before events : List Event) (deed : Deed) (bytes : List ℕ)
    → files ≡ (after (disk_with start) before).files → events ≡ before ++ (deed, bytes) ∷ []
    → now ≡ files_after files deed bytes
    → now ≡ (after (disk_with start) events).files
files_step start files now before events deed bytes was logged is =
    is ∙ ap (λ (f : Images). files_after f deed bytes) was
    ∙ sym (ap (λ (s : State). s.files) (after_push (disk_with start) before (deed, bytes)))
    ∙ ap (λ (es : List Event). (after (disk_with start) es).files) (sym logged)

pub said_step : (start : Images) (said now : List ℕ) (before events : List Event) (deed : Deed) (bytes : List ℕ)
    → said ≡ (after (disk_with start) before).said → events ≡ before ++ (deed, bytes) ∷ []
    → now ≡ said_after said deed bytes
    → now ≡ (after (disk_with start) events).said
said_step start said now before events deed bytes was logged is =
    is ∙ ap (λ (l : List ℕ). said_after l deed bytes) was
    ∙ sym (ap (λ (s : State). s.said) (after_push (disk_with start) before (deed, bytes)))
    ∙ ap (λ (es : List Event). (after (disk_with start) es).said) (sym logged)

-- the same where a call leaves the files, or what is said, and may not be logged
pub files_same : {T E : Type 0} (start files : Images) (before events : List Event) (deed : Deed) (bytes : List ℕ)
    (result : Result T E)
    → OnOk result (events ≡ before ++ (deed, bytes) ∷ []) → OnErr result (events ≡ before)
    → files ≡ (after (disk_with start) before).files → files ≡ files_after files deed bytes
    → files ≡ (after (disk_with start) events).files
files_same start files before events deed bytes (Ok x) ok err was still =
    files_step start files files before events deed bytes was ok still
files_same start files before events deed bytes (Err e) ok err was still = was
    ∙ ap (λ (es : List Event). (after (disk_with start) es).files) (sym err)

pub said_same : {T E : Type 0} (start : Images) (said : List ℕ) (before events : List Event) (deed : Deed)
    (bytes : List ℕ) (result : Result T E)
    → OnOk result (events ≡ before ++ (deed, bytes) ∷ []) → OnErr result (events ≡ before)
    → said ≡ (after (disk_with start) before).said → said ≡ said_after said deed bytes
    → said ≡ (after (disk_with start) events).said
said_same start said before events deed bytes (Ok x) ok err was still =
    said_step start said said before events deed bytes was ok still
said_same start said before events deed bytes (Err e) ok err was still = was
    ∙ ap (λ (es : List Event). (after (disk_with start) es).said) (sym err)

-- room for so many bytes is room for fewer
pub file_room_less : (files : MemoryFiles) (m n : ℕ) → m ≤ n → HasFileRoom files n → HasFileRoom files m
file_room_less files m n le room = record {
  head = omega (arith, le, room.head);
  bank1 = omega (arith, le, room.bank1);
  bank2 = omega (arith, le, room.bank2);
}

-- a call that is logged without bytes takes one place of the log, and no other room if the files take none
pub room_logged : {old new : MemoryDisk}
    → ((n : ℕ) → vec_len old.log + (n + 1) ≤ vec_capacity old.log → vec_len new.log + n ≤ vec_capacity new.log)
    → ((n : ℕ) → vec_len old.bytes + (n + 0) ≤ vec_capacity old.bytes → vec_len new.bytes + n ≤ vec_capacity new.bytes)
    → new.said ≡ old.said → ((n : ℕ) → HasFileRoom old.files n → HasFileRoom new.files n)
    → (calls n : ℕ) → HasRoom old (calls + 1) n → HasRoom new calls n
room_logged log pool said files calls n room = record {
  log = log calls room.log;
  pool = pool n (omega (arith, room.pool));
  said = subst (λ v. vec_len v + n ≤ vec_capacity v) (sym said) room.said;
  files = files n room.files;
}

module _ (old new : MemoryDisk) where
  pub state_logged : (event : Event) → Logs old new event → state_of new ≡ after_call (state_of old) event
  state_logged event logs =
      let moved : state_of new ≡ after (disk_with old.start) (events old ++ event ∷ []) =
      λ i. after (disk_with (logs.start i)) (logs.events i) in
      moved ∙ after_push (disk_with old.start) (events old) event

  pub state_stays : Stays old new → state_of new ≡ state_of old
  state_stays stays = λ i. after (disk_with (stays.start i)) (stays.events i)

  pub here : (file : ℕ) → leaves_of old file (contents_of old file)
  here = present_after (disk_with old.start) (events old) (λ file. refl)

  time_logged : (event : Event) → Logs old new event
      → Elapses (clock_of old) (clock_of new) (might_of old) (might_of new)
      (leaves_inside (state_of old) event.0 event.1) (SaysInside (said_of old) event.0 event.1)
  time_logged event logs =
      let inside = leaves_inside (state_of old) event.0 event.1 in
      let says = SaysInside (said_of old) event.0 event.1 in
      let one = elapses_one (disk_with old.start) (events old) event here in
      let logged = subst (λ (es : List Event).
      Elapses (clock_of old) (length es) (might_of old) (IsLeftSince (disk_with old.start) es) inside says)
      (sym logs.events) one in
      subst (λ (start : Images). Elapses (clock_of old) (clock_of new) (might_of old)
      (IsLeftSince (disk_with start) (events new)) inside says) (sym logs.start) logged

  time_stays : (may_leave : ℕ → List ℕ → Type 0) (says : List ℕ → Type 0) → Stays old new
      → Elapses (clock_of old) (clock_of new) (might_of old) (might_of new) may_leave says
  time_stays may_leave says stays =
      let none = elapses_none (disk_with old.start) (events old) may_leave says in
      let same = subst (λ (es : List Event).
      Elapses (clock_of old) (length es) (might_of old) (IsLeftSince (disk_with old.start) es) may_leave says)
      (sym stays.events) none in
      subst (λ (start : Images). Elapses (clock_of old) (clock_of new) (might_of old)
      (IsLeftSince (disk_with start) (events new)) may_leave says) (sym stays.start) same

  keeps_stays : Stays old new → Keeps old new
  keeps_stays stays = record {
    files = λ file. ap (λ (s : State). image_of s.files file) (state_stays stays);
    said = ap (λ (s : State). s.said) (state_stays stays);
    crash = λ file image left. subst (λ (s : State). s.leaves file image) (state_stays stays) left;
    time = time_stays (leaves_of old) (λ now. now ≡ said_of old) stays;
  }

  keeps_nothing : (bytes : List ℕ) → Logs old new (Nothing, bytes) → Keeps old new
  keeps_nothing bytes logs = record {
    files = λ file. ap (λ (s : State). image_of s.files file) (state_logged _ logs);
    said = ap (λ (s : State). s.said) (state_logged _ logs);
    crash = λ file image left. subst (λ (s : State). s.leaves file image) (state_logged _ logs) left;
    time = time_logged _ logs;
  }

  keeps_sync : (file : ℕ) (done : Bool) (bytes : List ℕ) → Logs old new (Sync file done, bytes) → Keeps old new
  keeps_sync file done bytes logs = record {
    files = λ other. ap (λ (s : State). image_of s.files other) (state_logged _ logs);
    said = ap (λ (s : State). s.said) (state_logged _ logs);
    crash = λ other image left. before done other image
        (subst (λ (s : State). s.leaves other image) (state_logged _ logs) left);
    time = time_logged _ logs;
  }
    where
      before : (done : Bool) (other : ℕ) (image : List ℕ)
          → leaves_after (state_of old) (Sync file done) bytes other image → leaves_of old other image
      before false other image left = left
      before true other image (inl elsewhere) = elsewhere.1
      before true other image (inr is) =
          subst (λ f. leaves_of old f image) (sym is.0)
          (subst (λ (i : List ℕ). leaves_of old file i) (sym is.1) (here file))

  -- after a sync that was done a crash leaves what a read gives
  only_synced : (file : ℕ) (bytes : List ℕ) → Logs old new (Sync file true, bytes)
      → Only (contents_of old file) (leaves_of new file)
  only_synced file bytes logs image left =
      settled (subst (λ (s : State). s.leaves file image) (state_logged _ logs) left)
    where
      settled : IsLeftBySync file (contents_of old file) (leaves_of old) file image → image ≡ contents_of old file
      settled (inl elsewhere) = absurd (elsewhere.0 refl)
      settled (inr is) = is.1

  -- what touches one file leaves the outcomes of the others
  untouched : (step : List ℕ → List ℕ → Type 0) (file : ℕ) (now : List ℕ) (other : ℕ) (image : List ℕ) → other ≢ file
      → IsLeftByTouch step file now (leaves_of old) other image → leaves_of old other image
  untouched step file now other image differs (inl elsewhere) = elsewhere.1
  untouched step file now other image differs (inr (inl is)) = absurd (differs is.0)
  untouched step file now other image differs (inr (inr is)) = absurd (differs is.0)

  touched : (step : List ℕ → List ℕ → Type 0) (file : ℕ) (now : List ℕ) → step (contents_of old file) now
      → (image : List ℕ)
      → IsLeftByTouch step file now (leaves_of old) file image
      → (from : List ℕ) × leaves_of old file from × step from image
  touched step file now steps image (inl elsewhere) = absurd (elsewhere.0 refl)
  touched step file now steps image (inr (inl is)) =
      (contents_of old file, here file, subst (λ (i : List ℕ). step (contents_of old file) i) (sym is.1) steps)
  touched step file now steps image (inr (inr is)) = is.1

  touches_stays : (step : List ℕ → List ℕ → Type 0) (file : ℕ) → ((image : List ℕ) → step image image)
      → Stays old new → Touches step file old new
  touches_stays step file same stays = record {
    others = λ other differs. ap (λ (s : State). image_of s.files other) (state_stays stays);
    said = ap (λ (s : State). s.said) (state_stays stays);
    crash = λ image left. (image, subst (λ (s : State). s.leaves file image) (state_stays stays) left, same image);
    crash_others = λ other differs image left. subst (λ (s : State). s.leaves other image) (state_stays stays) left;
    time = time_stays (leaves_of new) (λ now. now ≡ said_of old) stays;
  }

  touches_write : (file at done : ℕ) (bytes : List ℕ) → IsPlace (contents_of old) file at
      → Logs old new (Write file at done, bytes)
      → Touches (Torn at (length bytes)) file old new
  touches_write file at done bytes place logs =
      let now = with_bytes at (take done bytes) (contents_of old file) in
      let moved = state_logged _ logs in
      let files = with_image (state_of old).files file now in
      let is_now : image_of files file ≡ now = image_of_with (state_of old).files file now place.is_file in
      let step = Torn at (length bytes) in
      record {
        others = λ other differs. ap (λ (s : State). image_of s.files other) moved
            ∙ image_of_with_other (state_of old).files file other now differs;
        said = ap (λ (s : State). s.said) moved;
        crash = λ image left. touched step file (image_of files file)
            (subst (λ (i : List ℕ). step (contents_of old file) i) (sym is_now)
            (torn_written at done bytes (contents_of old file) place.within)) image
            (subst (λ (s : State). s.leaves file image) moved left);
        crash_others = λ other differs image left.
            untouched step file (image_of files file) other image differs
            (subst (λ (s : State). s.leaves other image) moved left);
        time = subst (λ (s : State). Elapses (clock_of old) (clock_of new) (might_of old) (might_of new) s.leaves
            (λ now. now ≡ said_of old)) (sym moved) (time_logged _ logs);
      }

  touches_cut : (file n : ℕ) (done : Bool) (bytes : List ℕ) → IsPlace (contents_of old) file n
      → Logs old new (Cut file n done, bytes)
      → Touches (CutShort n) file old new
  touches_cut file n true bytes place logs =
      let now = take n (contents_of old file) in
      let moved = state_logged _ logs in
      let files = with_image (state_of old).files file now in
      let is_now : image_of files file ≡ now = image_of_with (state_of old).files file now place.is_file in
      record {
        others = λ other differs. ap (λ (s : State). image_of s.files other) moved
            ∙ image_of_with_other (state_of old).files file other now differs;
        said = ap (λ (s : State). s.said) moved;
        crash = λ image left. touched (CutShort n) file (image_of files file)
            (subst (λ (i : List ℕ). CutShort n (contents_of old file) i) (sym is_now)
            (cut_done n (contents_of old file))) image (subst (λ (s : State). s.leaves file image) moved left);
        crash_others = λ other differs image left.
            untouched (CutShort n) file (image_of files file) other image differs
            (subst (λ (s : State). s.leaves other image) moved left);
        time = subst (λ (s : State). Elapses (clock_of old) (clock_of new) (might_of old) (might_of new) s.leaves
            (λ now. now ≡ said_of old)) (sym moved) (time_logged _ logs);
      }
  touches_cut file n false bytes place logs =
      let moved = state_logged _ logs in
      record {
        others = λ other differs. ap (λ (s : State). image_of s.files other) moved;
        said = ap (λ (s : State). s.said) moved;
        crash = λ image left. touched (CutShort n) file (contents_of old file)
            (cut_refl n (contents_of old file)) image (subst (λ (s : State). s.leaves file image) moved left);
        crash_others = λ other differs image left.
            untouched (CutShort n) file (contents_of old file) other image differs
            (subst (λ (s : State). s.leaves other image) moved left);
        time = subst (λ (s : State). Elapses (clock_of old) (clock_of new) (might_of old) (might_of new) s.leaves
            (λ now. now ≡ said_of old)) (sym moved) (time_logged _ logs);
      }

  -- the file that was written, or cut, as a read then gives it
  contents_written : (file at done : ℕ) (bytes : List ℕ) → file ≤ 2 → Logs old new (Write file at done, bytes)
      → contents_of new file ≡ with_bytes at (take done bytes) (contents_of old file)
  contents_written file at done bytes is_file logs =
      ap (λ (s : State). image_of s.files file) (state_logged _ logs)
      ∙ image_of_with (state_of old).files file _ is_file

  contents_cut : (file n : ℕ) (bytes : List ℕ) → file ≤ 2 → Logs old new (Cut file n true, bytes)
      → contents_of new file ≡ take n (contents_of old file)
  contents_cut file n bytes is_file logs =
      ap (λ (s : State). image_of s.files file) (state_logged _ logs)
      ∙ image_of_with (state_of old).files file _ is_file

  says_stays : (bytes : List ℕ) → Stays old new → SaysOnly bytes old new
  says_stays bytes stays = record {
    files = λ file. ap (λ (s : State). image_of s.files file) (state_stays stays);
    crash = λ file image left. subst (λ (s : State). s.leaves file image) (state_stays stays) left;
    time = time_stays (leaves_of old) (SaysFront (said_of old) bytes) stays;
  }

  says_said : (done : ℕ) (bytes : List ℕ) → Logs old new (Say done, bytes) → SaysOnly bytes old new
  says_said done bytes logs = record {
    files = λ file. ap (λ (s : State). image_of s.files file) (state_logged _ logs);
    crash = λ file image left. subst (λ (s : State). s.leaves file image) (state_logged _ logs) left;
    time = time_logged _ logs;
  }

  pub said_said : (done : ℕ) (bytes : List ℕ) → Logs old new (Say done, bytes)
      → said_of new ≡ said_of old ++ take done bytes
  said_said done bytes logs = ap (λ (s : State). s.said) (state_logged _ logs)

  pub said_stays : Stays old new → said_of new ≡ said_of old
  said_stays stays = ap (λ (s : State). s.said) (state_stays stays)

  -- the same, whether the call was logged or not
  pub keeps_noted : (logged : Bool) → (IsTrue logged → Logs old new (Nothing, []))
      → (¬ IsTrue logged → Stays old new) → Keeps old new
  keeps_noted true logs stays = keeps_nothing [] (logs refl)
  keeps_noted false logs stays = keeps_stays (stays not_true)

  pub keeps_synced : (file : ℕ) (done logged : Bool) → (IsTrue logged → Logs old new (Sync file done, []))
      → (¬ IsTrue logged → Stays old new) → Keeps old new
  keeps_synced file done true logs stays = keeps_sync file done [] (logs refl)
  keeps_synced file done false logs stays = keeps_stays (stays not_true)

  pub settled_synced : (file : ℕ) (done logged : Bool) → (IsTrue logged → Logs old new (Sync file done, []))
      → IsTrue done → IsTrue logged
      → Only (contents_of old file) (leaves_of new file)
  settled_synced file true logged logs is_done is_logged = only_synced file [] (logs is_logged)
  settled_synced file false logged logs is_done is_logged = absurd (not_true is_done)

  -- where it isn't done, or not logged, a crash may leave what it might have left before
  pub unsettled_synced : (file : ℕ) (done logged : Bool) → (IsTrue logged → Logs old new (Sync file done, []))
      → (¬ IsTrue logged → Stays old new) → ¬ (IsTrue done × IsTrue logged)
      → LeavesNoLess (leaves_of old) (leaves_of new)
  unsettled_synced file true true logs stays undone other image left = absurd (undone (refl, refl))
  unsettled_synced file false true logs stays undone other image left =
      subst (λ (s : State). s.leaves other image) (sym (state_logged _ (logs refl))) left
  unsettled_synced file done false logs stays undone other image left =
      subst (λ (s : State). s.leaves other image) (sym (state_stays (stays not_true))) left

  pub touches_written : (file at done : ℕ) (bytes : List ℕ) (logged : Bool)
      → (IsTrue logged → IsPlace (contents_of old) file at)
      → (IsTrue logged → Logs old new (Write file at done, bytes)) → (¬ IsTrue logged → Stays old new)
      → Touches (Torn at (length bytes)) file old new
  touches_written file at done bytes true place logs stays = touches_write file at done bytes (place refl) (logs refl)
  touches_written file at done bytes false place logs stays =
      touches_stays (Torn at (length bytes)) file (torn_refl at (length bytes)) (stays not_true)

  pub now_written : (file at done : ℕ) (bytes : List ℕ) (logged : Bool)
      → (IsTrue logged → IsPlace (contents_of old) file at)
      → (IsTrue logged → Logs old new (Write file at done, bytes)) → IsTrue logged
      → contents_of new file ≡ with_bytes at (take done bytes) (contents_of old file)
  now_written file at done bytes logged place logs is =
      contents_written file at done bytes ((place is).is_file) (logs is)

  pub touches_cut_off : (file n : ℕ) (done logged : Bool) → (IsTrue logged → IsPlace (contents_of old) file n)
      → (IsTrue logged → Logs old new (Cut file n done, [])) → (¬ IsTrue logged → Stays old new)
      → Touches (CutShort n) file old new
  touches_cut_off file n done true place logs stays = touches_cut file n done [] (place refl) (logs refl)
  touches_cut_off file n done false place logs stays = touches_stays (CutShort n) file (cut_refl n) (stays not_true)

  pub now_cut : (file n : ℕ) (done logged : Bool) → (IsTrue logged → IsPlace (contents_of old) file n)
      → (IsTrue logged → Logs old new (Cut file n done, [])) → IsTrue done → IsTrue logged
      → contents_of new file ≡ take n (contents_of old file)
  now_cut file n true logged place logs is_done is = contents_cut file n [] ((place is).is_file) (logs is)
  now_cut file n false logged place logs is_done is = absurd (not_true is_done)

  pub uncut : (file n : ℕ) (done logged : Bool) → (IsTrue logged → Logs old new (Cut file n done, []))
      → (¬ IsTrue logged → Stays old new) → ¬ (IsTrue done × IsTrue logged)
      → SameFiles (contents_of old) (contents_of new)
  uncut file n true true logs stays undone other = absurd (undone (refl, refl))
  uncut file n false true logs stays undone other = ap (λ (s : State). image_of s.files other) (state_logged _ (logs refl))
  uncut file n done false logs stays undone other = ap (λ (s : State). image_of s.files other) (state_stays (stays not_true))

  pub says_logged : (done : ℕ) (bytes : List ℕ) (logged : Bool) → (IsTrue logged → Logs old new (Say done, bytes))
      → (¬ IsTrue logged → Stays old new) → SaysOnly bytes old new
  says_logged done bytes true logs stays = says_said done bytes (logs refl)
  says_logged done bytes false logs stays = says_stays bytes (stays not_true)
