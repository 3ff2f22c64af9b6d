-- What a crash leaves of a pair of banks while a record is appended.
use Rattle.std.proofs.Common.{◌≡◌, inl, inr, ⊎_elim, ℕ, List, ◌∙◌, ap, arith}
use Rattle.std.specs.Int.{IsInRange}
use Rattle.chart_ports.specs.declared.images.Images.{Images}
use Rattle.chart_ports.specs.Moments.{LeavesOnly, MayBeLeft, image_of}
use Rattle.chart_ports.proofs.Moments.{started, weaker}
use Rattle.bank_journal.specs.Content.{Content}
use Rattle.bank_journal.specs.Bank.{with_body}
use Rattle.bank_journal.specs.Moments.{IsBeforeOrAfter, LeavesFile}
use Rattle.bank_journal.specs.Reading.{bank_of}
use Rattle.bank_pair.specs.Head.{bank_named}
use Rattle.bank_pair.specs.Pair.{IsPairInStep, LeavesEither, PairValue}
use Rattle.bank_pair.proofs.Naming.{content_in}

module _ {contents : ℕ → List ℕ} {may_leave : ℕ → List ℕ → Type 0} {pair : PairValue} {content : Content}
    (step : IsPairInStep contents may_leave pair content) (said : List ℕ) where
  -- a crash leaves what a read gives, where nothing is under way
  says_before : (after : Content) (images : Images) (so_far : List ℕ) → MayBeLeft may_leave images → so_far ≡ said
      → LeavesEither said content after images so_far
  says_before after images so_far left silent = record {
    silent = silent;
    either = inl (content_in images pair.file (ap bank_named (step.head images.head (left 0)) ∙ step.named)
        ∙ ap bank_of (step.bank.settled (image_of images pair.file) (left pair.file)) ∙ step.bank.reads);
  }

  -- no call of the desk
  pub nothing_done : {D : Type 0} (clock : D → ℕ) (might : D → ℕ → Images → List ℕ → Type 0) (desk : D)
      (after : Content) → ((images : Images) (so_far : List ℕ) → might desk (clock desk) images so_far
      → MayBeLeft may_leave images × (so_far ≡ said))
      → LeavesOnly clock might desk desk (LeavesEither said content after)
  nothing_done clock might desk after only_now =
      started clock might desk (LeavesEither said content after)
      (λ images so_far left. let now = only_now images so_far left in says_before after images so_far now.0 now.1)

  says_either : (body : List ℕ) → IsInRange 1 2 pair.file → (images : Images) (so_far : List ℕ)
      → LeavesFile pair.file may_leave said (IsBeforeOrAfter content body) images so_far
      → LeavesEither said content (with_body content body) images so_far
  says_either body bank images so_far leaves =
      let named = content_in images pair.file
      (ap bank_named (step.head images.head (leaves.others 0 (λ e. omega (arith, e, bank.0)))) ∙ step.named) in
      record {
        silent = leaves.silent;
        either = ⊎_elim (λ before. inl (named ∙ before)) (λ after. inr (named ∙ after)) leaves.this;
      }

  -- the record is appended to the current bank
  pub current_appended : {D : Type 0} (clock : D → ℕ) (might : D → ℕ → Images → List ℕ → Type 0) (old new : D)
      (body : List ℕ) → IsInRange 1 2 pair.file
      → LeavesOnly clock might old new (LeavesFile pair.file may_leave said (IsBeforeOrAfter content body))
      → LeavesOnly clock might old new (LeavesEither said content (with_body content body))
  current_appended clock might old new body bank run =
      weaker clock might old new (LeavesFile pair.file may_leave said (IsBeforeOrAfter content body))
      (LeavesEither said content (with_body content body)) (says_either body bank) run
