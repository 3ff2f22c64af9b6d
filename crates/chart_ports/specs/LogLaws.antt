-- What holds after the calls of a log.
use Rattle.std.specs.Prelude.{◌≡◌, ◌≢◌, ℕ, zero, suc, true, false, List, [], ◌∷◌, length, refl}
use Rattle.std.proofs.Common.{inl, inr, sym, ap, subst}
use Rattle.std.proofs.lemmas.Bool.{cases_eq}
use Rattle.chart_ports.specs.Log.{Event, IsLeftBetween, IsLeftSince, State, after, after_call, files_after, with_image}
use Rattle.chart_ports.specs.Moments.{MayBeLeft, image_of}
use Rattle.chart_ports.specs.declared.images.Images.{Images}
use Rattle.chart_ports.specs.declared.log.Deed.{Deed}
use Rattle.chart_ports.specs.declared.log.Deed.TheVariants.{Nothing, Write, Cut, Sync, Say}

-- the files that were not written stay
pub image_of_with_other : (images : Images) (file other : ℕ) (bytes : List ℕ) → other ≢ file
    → image_of (with_image images file bytes) other ≡ image_of images other
image_of_with_other images zero zero bytes differs = absurd (differs refl)
image_of_with_other images zero (suc zero) bytes differs = refl
image_of_with_other images zero (suc (suc zero)) bytes differs = refl
image_of_with_other images zero (suc (suc (suc n))) bytes differs = refl
image_of_with_other images (suc zero) zero bytes differs = refl
image_of_with_other images (suc zero) (suc zero) bytes differs = absurd (differs refl)
image_of_with_other images (suc zero) (suc (suc zero)) bytes differs = refl
image_of_with_other images (suc zero) (suc (suc (suc n))) bytes differs = refl
image_of_with_other images (suc (suc zero)) zero bytes differs = refl
image_of_with_other images (suc (suc zero)) (suc zero) bytes differs = refl
image_of_with_other images (suc (suc zero)) (suc (suc zero)) bytes differs = absurd (differs refl)
image_of_with_other images (suc (suc zero)) (suc (suc (suc n))) bytes differs = refl
image_of_with_other images (suc (suc (suc m))) other bytes differs = refl

-- what a read gives is among what a crash may leave
abbrev pub IsPresent : State → Type 0
IsPresent disk = (file : ℕ) → disk.leaves file (image_of disk.files file)

pub present_step : (disk : State) (deed : Deed) (bytes : List ℕ) → IsPresent disk
    → IsPresent (after_call disk (deed, bytes))
present_step disk Nothing bytes here = here
present_step disk (Write touched at done) bytes here = λ file. elim (cases_eq file touched) [
  | inl same ↦ inr (inl (same, ap (λ f. image_of (files_after disk.files (Write touched at done) bytes) f) same))
  | inr differs ↦ inl (
    differs,
    subst (λ image. disk.leaves file image)
        (sym (image_of_with_other disk.files touched file _ differs)) (here file),
  )
]
present_step disk (Cut touched n true) bytes here = λ file. elim (cases_eq file touched) [
  | inl same ↦ inr (inl (same, ap (λ f. image_of (files_after disk.files (Cut touched n true) bytes) f) same))
  | inr differs ↦ inl (
    differs,
    subst (λ image. disk.leaves file image)
        (sym (image_of_with_other disk.files touched file _ differs)) (here file),
  )
]
present_step disk (Cut touched n false) bytes here = λ file. elim (cases_eq file touched) [
  | inl same ↦ inr (inl (same, ap (λ f. image_of disk.files f) same))
  | inr differs ↦ inl (differs, here file)
]
present_step disk (Sync touched true) bytes here = λ file. elim (cases_eq file touched) [
  | inl same ↦ inr (same, ap (λ f. image_of disk.files f) same)
  | inr differs ↦ inl (differs, here file)
]
present_step disk (Sync touched false) bytes here = here
present_step disk (Say done) bytes here = here

pub present_after : (disk : State) (events : List Event) → IsPresent disk → IsPresent (after disk events)
present_after disk [] here = here
present_after disk (event ∷ events) here =
    present_after (after_call disk event) events (present_step disk event.0 event.1 here)

-- the present moment is one of those since any other
pub might_now : (disk : State) (events : List Event) (t : ℕ) (images : Images)
    → MayBeLeft (after disk events).leaves images → IsLeftSince disk events t images (after disk events).said
might_now disk [] t images left = (left, refl)
might_now disk (event ∷ events) zero images left = inr (inr (might_now (after_call disk event) events zero images left))
might_now disk (event ∷ events) (suc t) images left = might_now (after_call disk event) events t images left

-- since the present moment there is no other
pub only_now : (disk : State) (events : List Event) (images : Images) (said : List ℕ)
    → IsLeftSince disk events (length events) images said
    → IsLeftBetween (after disk events) images said
only_now disk [] images said might = might
only_now disk (event ∷ events) images said might = only_now (after_call disk event) events images said might
