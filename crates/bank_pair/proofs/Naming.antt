-- The bank that a head names, and what it says.
use Rattle.std.proofs.Common.{◌≡◌, ℕ, zero, suc, ◌≤◌, List, refl, ◌∙◌, ap, arith}
use Rattle.std.specs.Int.{IsInRange}
use Rattle.chart_ports.specs.declared.images.Images.{Images}
use Rattle.chart_ports.specs.Moments.{image_of, images_of}
use Rattle.bank_journal.specs.Reading.{bank_of}
use Rattle.bank_pair.specs.Head.{bank_named, content_named}

image_read : (contents : ℕ → List ℕ) (file : ℕ) → file ≤ 2 → image_of (images_of contents) file ≡ contents file
image_read contents zero within = refl
image_read contents (suc zero) within = refl
image_read contents (suc (suc zero)) within = refl
image_read contents (suc (suc (suc file))) within = absurd (omega arith)

-- images of which the head names this file say what its bytes say
pub content_in : (images : Images) (file : ℕ) → bank_named images.head ≡ file
    → content_named images ≡ bank_of (image_of images file)
unfolding content_named
content_in images file named = ap (λ (n : ℕ). bank_of (image_of images n)) named

-- so do the files as a read gives them
pub content_read : (contents : ℕ → List ℕ) (file : ℕ) → IsInRange 1 2 file → bank_named (contents 0) ≡ file
    → content_named (images_of contents) ≡ bank_of (contents file)
content_read contents file bank named =
    content_in (images_of contents) file named ∙ ap bank_of (image_read contents file bank.1)
