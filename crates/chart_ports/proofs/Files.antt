-- The files of a disk by their numbers.
use Rattle.std.proofs.Common.{inl, inr, ◌+◌, ◌++◌, min, length, take, drop, ap, sym, ◌∙◌, ◌≡◌, ◌≢◌, ◌≤◌, ℕ, zero, suc}
use Rattle.std.proofs.Common.{List, [], refl, arith}
use Rattle.std.proofs.lemmas.Bool.{cases_eq}
use Rattle.std.proofs.lemmas.List.{take_all, drop_all}
use Rattle.chart_ports.specs.Disk.{with_bytes}
use Rattle.chart_ports.specs.Log.{with_image}
use Rattle.chart_ports.specs.Moments.{image_of}
use Rattle.chart_ports.specs.declared.images.Images.{Images}

-- a number that is no file's has no bytes
pub image_of_beyond : (images : Images) (file : ℕ) → file ≢ 0 → file ≢ 1 → file ≢ 2 → image_of images file ≡ []
image_of_beyond images zero a b c = absurd (a refl)
image_of_beyond images (suc zero) a b c = absurd (b refl)
image_of_beyond images (suc (suc zero)) a b c = absurd (c refl)
image_of_beyond images (suc (suc (suc n))) a b c = refl

-- the file that was put is there
pub image_of_with : (images : Images) (file : ℕ) (bytes : List ℕ) → file ≤ 2
    → image_of (with_image images file bytes) file ≡ bytes
image_of_with images zero bytes le = refl
image_of_with images (suc zero) bytes le = refl
image_of_with images (suc (suc zero)) bytes le = refl
image_of_with images (suc (suc (suc n))) bytes le = absurd (omega (arith, le))

pub with_image_beyond : (images : Images) (file : ℕ) (bytes : List ℕ) → file ≢ 0 → file ≢ 1 → file ≢ 2
    → with_image images file bytes ≡ images
with_image_beyond images zero bytes a b c = absurd (a refl)
with_image_beyond images (suc zero) bytes a b c = absurd (b refl)
with_image_beyond images (suc (suc zero)) bytes a b c = absurd (c refl)
with_image_beyond images (suc (suc (suc n))) bytes a b c = refl

-- bytes behind the end are written at the end
pub with_bytes_min : (at : ℕ) (bytes file : List ℕ)
    → with_bytes (min (length file) at) bytes file ≡ with_bytes at bytes file
with_bytes_min at bytes file = elim (cases_eq (min (length file) at) at) [
  | inl same ↦ ap (λ k. with_bytes k bytes file) same
  | inr differs ↦
      let short : length file ≤ at = omega (arith, differs) in
      let is : min (length file) at ≡ length file = omega (arith, short) in
      let behind : length file ≤ at + length bytes = omega (arith, short) in
      ap (λ k. with_bytes k bytes file) is
      ∙ ap (λ (l : List ℕ). l ++ bytes ++ drop (length file + length bytes) file)
      (take_all (length file) file (omega arith) ∙ sym (take_all at file short))
      ∙ ap (λ (l : List ℕ). take at file ++ bytes ++ l)
      (drop_all (length file + length bytes) file (omega arith) ∙ sym (drop_all (at + length bytes) file behind))
]

-- a file that is put twice, the second time made from the first
pub with_image_twice : (images : Images) (file end : ℕ) (bytes : List ℕ)
    → with_image (with_image images file bytes) file
    (take end (image_of (with_image images file bytes) file)) ≡ with_image images file (take end bytes)
with_image_twice images zero end bytes = refl
with_image_twice images (suc zero) end bytes = refl
with_image_twice images (suc (suc zero)) end bytes = refl
with_image_twice images (suc (suc (suc n))) end bytes = refl
