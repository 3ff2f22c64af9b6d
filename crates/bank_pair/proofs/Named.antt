-- What the bank says that a head names, while the other one is written, and when the head is turned.
use Rattle.std.proofs.Common.{◌≡◌, ◌≢◌, ◌⊎◌, inl, inr, ℕ, ◌≤◌, List, [], ◌∷◌, Ok, ◌∙◌, ap}
use Rattle.std.proofs.Common.{subst, arith}
use Rattle.std.proofs.lemmas.Bool.{cases_eq}
use Rattle.chart_ports.specs.declared.images.Images.{Images}
use Rattle.chart_ports.specs.Disk.{LeavesNoMoreOfOthers, Only, SameOthers}
use Rattle.chart_ports.specs.Moments.{LeavesOnly, image_of}
use Rattle.chart_ports.proofs.Moments.{and_then, weaker}
use Rattle.bank_journal.specs.Content.{Content}
use Rattle.bank_journal.specs.Moments.{LeavesFile}
use Rattle.bank_journal.specs.Reading.{bank_of}
use Rattle.bank_pair.specs.Head.{bank_named, content_named, other_than}
use Rattle.bank_pair.specs.Pair.{IsPairInStep, LeavesContent, LeavesEither, PairValue}
use Rattle.bank_pair.specs.Saving.{LeavesAnything}

abbrev pub Leaving : Type 1
Leaving = ℕ → List ℕ → Type 0

named_range : (head : List ℕ) → (1 ≤ bank_named head) × (bank_named head ≤ 2)
named_range [] = (omega arith, omega arith)
named_range (byte ∷ bytes) = (omega arith, omega arith)

-- ---- what files say

says_named : (images : Images) (file : ℕ) (bytes : List ℕ) (content : Content) → bank_named images.head ≡ file
    → image_of images file ≡ bytes → bank_of bytes ≡ Ok content → content_named images ≡ Ok content
unfolding content_named
says_named images file bytes content named image reads =
    ap (λ (n : ℕ). bank_of (image_of images n)) named ∙ ap bank_of image ∙ reads

-- whatever the head is, it names the one bank or the other
says_either : (images : Images) (file other : ℕ) (bytes other_bytes : List ℕ) (before after : Content)
    → 1 ≤ file → file ≤ 2 → other ≡ other_than file
    → image_of images file ≡ bytes → bank_of bytes ≡ Ok before
    → image_of images other ≡ other_bytes → bank_of other_bytes ≡ Ok after
    → (content_named images ≡ Ok before) ⊎ (content_named images ≡ Ok after)
says_either images file other bytes other_bytes before after low high other_is this reads that other_reads =
    elim (cases_eq (bank_named images.head) file) [
      | inl same ↦ inl (says_named images file bytes before same this reads)
      | inr apart ↦
          let range = named_range images.head in
          let turned : bank_named images.head ≡ other = omega (arith, range.0, range.1, apart, other_is) in
          inr (says_named images other other_bytes after turned that other_reads)
    ]

-- ---- a desk in step with a pair, of which the other bank is written

module _ (contents : ℕ → List ℕ) (may_leave : Leaving) (pair : PairValue) (content : Content)
    (step : IsPairInStep contents may_leave pair content) (other : ℕ) (other_is : other ≡ other_than pair.file) where
  pub low : 1 ≤ pair.file
  low = subst (λ (n : ℕ). 1 ≤ n) step.named (named_range (contents 0)).0

  pub high : pair.file ≤ 2
  high = subst (λ (n : ℕ). n ≤ 2) step.named (named_range (contents 0)).1

  head_apart : 0 ≢ other
  head_apart same = omega (arith, same, high, other_is)

  bank_apart : pair.file ≢ other
  bank_apart same = omega (arith, same, low, high, other_is)

  -- the current bank says what it said
  leaves_content : (said : List ℕ) (images : Images) (so_far : List ℕ)
      → LeavesAnything other may_leave said images so_far → LeavesContent said content images so_far
  leaves_content said images so_far leaves =
      let head = step.head images.head (leaves.others 0 head_apart) in
      record {
        silent = leaves.silent;
        says = says_named images pair.file (contents pair.file) content (ap bank_named head ∙ step.named)
            (step.bank.settled (image_of images pair.file) (leaves.others pair.file bank_apart)) step.bank.reads;
      }

  pub current_says : {D : Type 0} (clock : D → ℕ) (might : D → ℕ → Images → List ℕ → Type 0) (old new : D)
      (said : List ℕ) → LeavesOnly clock might old new (LeavesAnything other may_leave said)
      → LeavesOnly clock might old new (LeavesContent said content)
  current_says clock might old new said run =
      weaker clock might old new (LeavesAnything other may_leave said) (LeavesContent said content)
      (leaves_content said) run

  pub says_before : {D : Type 0} (clock : D → ℕ) (might : D → ℕ → Images → List ℕ → Type 0) (old new : D)
      (said : List ℕ) (after : Content) → LeavesOnly clock might old new (LeavesAnything other may_leave said)
      → LeavesOnly clock might old new (LeavesEither said content after)
  says_before clock might old new said after run =
      weaker clock might old new (LeavesContent said content) (LeavesEither said content after)
      (λ images so_far leaves. record { silent = leaves.silent; either = inl leaves.says })
      (current_says clock might old new said run)

  -- ---- when it is on the disk, the head is turned

  module _ (next : ℕ → List ℕ) (then_may : Leaving) (same : SameOthers other contents next)
      (no_more : LeavesNoMoreOfOthers other may_leave then_may) (settled : Only (next other) (then_may other))
      (after : Content) (reads : bank_of (next other) ≡ Ok after) where
    leaves_either : (said then_said : List ℕ) (P : List ℕ → Type 0) (images : Images) (so_far : List ℕ)
        → then_said ≡ said → LeavesFile 0 then_may then_said P images so_far
        → LeavesEither said content after images so_far
    leaves_either said then_said P images so_far silent leaves =
        let past = leaves.others pair.file (λ e. omega (arith, e, low)) in
        let bank = step.bank.settled (image_of images pair.file) (no_more pair.file bank_apart _ past) in
        let past_other = leaves.others other (λ e. omega (arith, e, high, other_is)) in
        let other_bank = settled (image_of images other) past_other in
        record {
          silent = leaves.silent ∙ silent;
          either = says_either images pair.file other (contents pair.file) (next other) content after low high other_is
              bank step.bank.reads other_bank reads;
        }

    pub says_one : {D : Type 0} (clock : D → ℕ) (might : D → ℕ → Images → List ℕ → Type 0) (old mid new : D)
        (said then_said : List ℕ) (P : List ℕ → Type 0) → then_said ≡ said
        → LeavesOnly clock might old mid (LeavesAnything other may_leave said)
        → LeavesOnly clock might mid new (LeavesFile 0 then_may then_said P)
        → LeavesOnly clock might old new (LeavesEither said content after)
    says_one clock might old mid new said then_said P silent first then_run =
        and_then clock might old mid new (LeavesEither said content after)
        (says_before clock might old mid said after first)
        (weaker clock might mid new (LeavesFile 0 then_may then_said P) (LeavesEither said content after)
        (λ images so_far leaves. leaves_either said then_said P images so_far silent leaves) then_run)
