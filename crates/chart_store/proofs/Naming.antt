-- The bank that a head names, and what files say by it.
use Rattle.std.proofs.Common.{◌≡◌, ◌≢◌, ℕ, zero, suc, ◌≤◌, List, [], ◌∷◌, Ok, refl, ◌∙◌, ap, subst, arith}
use Rattle.chart_ports.specs.declared.images.Images.{Images}
use Rattle.chart_ports.specs.Moments.{MayBeLeft, image_of, images_of}
use Rattle.bank_journal.specs.Content.{Content}
use Rattle.bank_journal.specs.Reading.{bank_of}
use Rattle.bank_pair.specs.Head.{bank_named, content_named}
use Rattle.bank_pair.specs.Pair.{IsPairInStep, PairValue}

pub named_range : (head : List ℕ) → (1 ≤ bank_named head) × (bank_named head ≤ 2)
named_range [] = (omega arith, omega arith)
named_range (byte ∷ bytes) = (omega arith, omega arith)

-- the head isn't the bank that it names
pub head_apart : (contents : ℕ → List ℕ) (file : ℕ) → bank_named (contents 0) ≡ file → 0 ≢ file
head_apart contents file named same =
    let range = named_range (contents 0) in omega (arith, same, named, range.0)

image_read : (contents : ℕ → List ℕ) (file : ℕ) → file ≤ 2 → image_of (images_of contents) file ≡ contents file
image_read contents zero within = refl
image_read contents (suc zero) within = refl
image_read contents (suc (suc zero)) within = refl
image_read contents (suc (suc (suc more))) within = absurd (omega (arith, within))

-- what files say, by the number of the bank
pub says_by : (images : Images) (file : ℕ) → bank_named images.head ≡ file
    → content_named images ≡ bank_of (image_of images file)
unfolding content_named
says_by images file named = ap (λ (n : ℕ). bank_of (image_of images n)) named

pub says_read : (contents : ℕ → List ℕ) (file : ℕ) → bank_named (contents 0) ≡ file
    → content_named (images_of contents) ≡ bank_of (contents file)
says_read contents file named =
    let high : file ≤ 2 = subst (λ (n : ℕ). n ≤ 2) named (named_range (contents 0)).1 in
    says_by (images_of contents) file named ∙ ap bank_of (image_read contents file high)

-- ---- a desk in step with a pair

module _ (contents : ℕ → List ℕ) (may_leave : ℕ → List ℕ → Type 0) (pair : PairValue) (content : Content)
    (step : IsPairInStep contents may_leave pair content) where
  -- a read says the content
  pub read_says : content_named (images_of contents) ≡ Ok content
  read_says = says_read contents pair.file step.named ∙ step.bank.reads

  -- and so does whatever a crash leaves
  pub left_says : (images : Images) → MayBeLeft may_leave images → content_named images ≡ Ok content
  left_says images left =
      says_by images pair.file (ap bank_named (step.head images.head (left 0)) ∙ step.named)
      ∙ ap bank_of (step.bank.settled (image_of images pair.file) (left pair.file)) ∙ step.bank.reads
